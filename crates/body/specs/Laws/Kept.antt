-- Rows kept in their array one after the other.
use Rattle.std.specs.Prelude.{ℕ, ◌+◌, ◌<◌, ◌≡◌, refl, List, [], ◌∷◌, ◌++◌, length, take, set}
use Rattle.std.proofs.Common.{sym, ◌∙◌, ap, add-one, arith, length-append, length-take, length-take-le, take-suc-set}
use Rattle.text.specs.Laws.Arrays.{pad-length, pad-more}
use Rattle.row.specs.declared.Row.{Row}
use Rattle.row.specs.Row.{blank_row}
use Rattle.body.specs.declared.Rows.{Rows}
use Rattle.body.specs.Rows.{most_rows, make_rows}
use Rattle.body.specs.Code.Held.{Kept}

-- a count and an array as one value
abbrev pub held : ℕ → List Row → Rows
held count rows = record { count = count; rows = rows }

-- what is kept: how long the array and its used part are
module _ {count : ℕ} {rows : List Row} (k : Kept (held count rows)) where
  pub size : length rows ≡ most_rows
  size = let f = k.few in ap (λ (r : Rows). length r.rows) k.zeros ∙ pad-length most_rows blank_row (take count rows) (rw length-take (omega arith))

  pub counted : length (take count rows) ≡ count
  counted = let f = k.few in length-take-le count rows (omega (arith, size))

  -- one row more is stored behind the others
  module _ (row : Row) (f : count < most_rows) where
    pub grown-rows : take (count + 1) (set rows count row) ≡ take count rows ++ (row ∷ [])
    grown-rows = let here : count < length rows = omega (arith, size) in rw add-one (take-suc-set rows count row here)

    pub grown : Kept (held (count + 1) (set rows count row))
    grown =
        let n : count + 1 ≡ length (take (count + 1) (set rows count row)) = rw (grown-rows, length-append) (omega (arith, counted)) in
        let e = ap (λ (r : Rows). set r.rows count row) k.zeros ∙ ap (λ (n : ℕ). set (make_rows (take count rows)).rows n row) (sym counted)
        ∙ pad-more most_rows blank_row (take count rows) row (omega (arith, counted)) ∙ ap (λ (rs : List Row). (make_rows rs).rows) (sym grown-rows) in
        record { few = omega arith; zeros = λ i. record { count = n i; rows = e i } }

-- no row as yet
pub none_kept : Kept (make_rows [])
none_kept = record { few = omega arith; zeros = refl }
