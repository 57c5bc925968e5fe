-- The test of each part says yes exactly where the two are equal; of rows and items where both are valid, so blank past the count.
use Rattle.std.specs.Prelude.{◌≡◌, true}
use Rattle.std.proofs.Common.{sym, ◌∙◌, ap, eqb-true}
use Rattle.text.specs.Laws.Base.{and-1, and-2, and_i}
use Rattle.text.specs.Laws.Same.{all_same, same-all}
use Rattle.surface.specs.declared.Third.{Third}
use Rattle.row.specs.declared.Row.{Row}
use Rattle.body.specs.declared.Rows.{Rows}
use Rattle.body.specs.Rows.{rows_of, make_rows, valid_rows}
use Rattle.body.specs.Laws.Parts.{rows_made}
use Rattle.sameness.specs.Same.{same_third, same_row, same_rows}
use Rattle.sameness.specs.Laws.{self}

-- rows
pub third-same : (a b : Third) → same_third a b ≡ true → a ≡ b
unfolding same_third
third-same a b h =
    let h₁ = and-2 _ _ h in
    let h₂ = and-2 _ _ h₁ in
    let c = eqb-true a.code b.code (and-1 _ _ h) in
    let v = eqb-true a.coverage b.coverage (and-1 _ _ h₁) in
    let d = eqb-true a.depth b.depth (and-1 _ _ h₂) in
    let s = eqb-true a.description b.description (and-2 _ _ h₂) in
    λ i. record { code = c i; coverage = v i; depth = d i; description = s i }

pub same-third : (a : Third) → same_third a a ≡ true
unfolding same_third
same-third a = and_i (self a.code) (and_i (self a.coverage) (and_i (self a.depth) (self a.description)))

pub row_same : (a b : Row) → same_row a b ≡ true → a ≡ b
unfolding same_row
row_same a b h =
    let h₁ = and-2 _ _ h in
    let h₂ = and-2 _ _ h₁ in
    let h₃ = and-2 _ _ h₂ in
    let t = eqb-true a.time b.time (and-1 _ _ h) in
    let n = eqb-true a.number b.number (and-1 _ _ h₁) in
    let s = eqb-true a.side b.side (and-1 _ _ h₂) in
    let w = eqb-true a.width b.width (and-1 _ _ h₃) in
    let x = all_same same_third third-same a.thirds b.thirds (and-2 _ _ h₃) in
    λ i. record { time = t i; number = n i; side = s i; thirds = x i; width = w i }

pub same_row_lem : (a : Row) → same_row a a ≡ true
unfolding same_row
same_row_lem a = and_i (self a.time) (and_i (self a.number) (and_i (self a.side) (and_i (self a.width) (same-all same_third same-third a.thirds))))

pub rows_same : (a b : Rows) → valid_rows a ≡ true → valid_rows b ≡ true → same_rows a b ≡ true → a ≡ b
unfolding same_rows
rows_same a b v w h =
    let n = eqb-true a.count b.count (and-1 _ _ h) in
    let x = all_same same_row row_same (rows_of a) (rows_of b) (and-2 _ _ h) in
    let y = sym (rows_made a v) ∙ (ap make_rows x ∙ rows_made b w) in
    λ i. record { count = n i; rows = (y i).rows }

pub same-rows : (a : Rows) → same_rows a a ≡ true
unfolding same_rows
same-rows a = and_i (self a.count) (same-all same_row same_row_lem (rows_of a))
