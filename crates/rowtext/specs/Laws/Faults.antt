-- The number of a row's fault, and that its place is one of the row.
use Rattle.std.specs.Prelude.{ℕ, ◌≡◌, List, cond, Bool, eqb, leb}
use Rattle.std.proofs.Math.Path.{refl}
use Rattle.std.proofs.Math.Bool.{true, false}
use Rattle.std.proofs.Common.{eqb-true, leb-true, arith}
use Rattle.std.proofs.lemmas.Bool.{lt-leb}
use Rattle.text.specs.Choice.{◌and◌, all, is_empty}
use Rattle.text.specs.Piece.{Piece}
use Rattle.text.specs.Read.{Got, misfit, got, guard, and_then, skip}
use Rattle.text.specs.Out.{Out}
use Rattle.text.specs.Refusals.{no_row, wrong_runway, wrong_codes, wrong_coverage_or_depth, wrong_descriptions, wrong_width}
use Rattle.text.specs.Laws.Base.{no-misfit, guard-got, and-1}
use Rattle.text.specs.Laws.Left.{Left, here, left-trans, skip-left}
use Rattle.text.proofs.Laws.Left.{typed-left, laws-left}
use Rattle.text.specs.Laws.Out.{Within, passed, Any, fit-within, demand-within, is_number}
use Rattle.surface.specs.Third.{valid_coverage, valid_depth}
use Rattle.thirds.specs.Groups.{Three}
use Rattle.thirds.specs.Laws.Groups.{descriptions-laws}
use Rattle.row.specs.Row.{is_short}
use Rattle.rowtext.specs.Reading.{Rest, all_nr, make_thirds, make_row, read_width, parted}
use Rattle.rowtext.specs.Reading.{time_group, runway_group, code_group, coverage_group, depth_group, description_group, width_group}
use Rattle.rowtext.specs.Reading.{short, unless, behind_codes, find_row}
use Rattle.rowtext.specs.Laws.Tail.{width-laws}
use Rattle.rowtext.specs.Laws.Groups.{Group, time-group, runway-group, code-group, coverage-group, depth-group}
use Rattle.row.specs.declared.Row.{Row}

-- "5 keeps the row's time; 24 runway, 25 codes, 26 coverage or depth, 27 descriptions, 28 width or what follows"
unfoldable pub is_row_number : ℕ → Bool
is_row_number n = cond (eqb n no_row) true (leb wrong_runway n and leb n wrong_width)

-- they are numbers of a refused reading
pub row-is-number : (n : ℕ) → is_row_number n ≡ true → is_number n ≡ true
unfolding is_row_number is_number ◌and◌
row-is-number n h = go (eqb n no_row) refl h
  where
    go : (b : Bool) → eqb n no_row ≡ b → cond b true (leb wrong_runway n and leb n wrong_width) ≡ true
        → cond (leb n 12) (leb 1 n) (leb wrong_runway n and leb n wrong_width) ≡ true
    go true e k = rw (eqb-true n no_row e)
    go false e k = let l = leb-true wrong_runway n (and-1 (leb wrong_runway n) (leb n wrong_width) k) in rw (lt-leb n 12 (omega arith)) k

-- a group leaves an end of what it was read in
group-left : {A : Type 0} {valid : A → Type 0} {text : A → List Piece} {read : List ℕ → Got A} → Group valid text read
    → {m : List ℕ} {a : A} {r : List ℕ} → read m ≡ got a r → Left m r
group-left G e = typed-left (G.sound e).1

description-left : (m : List ℕ) {a : Three} {r : List ℕ} → description_group m ≡ got a r → Left m r
unfolding description_group
description-left m e = laws-left descriptions-laws e

width-left : (m : List ℕ) {a : ℕ} {r : List ℕ} → width_group m ≡ got a r → Left m r
unfolding width_group
width-left m e = laws-left width-laws (alone (read_width m) e)
  where
    alone : (g : Got ℕ) {a : ℕ} {r : List ℕ} → and_then g (λ a r. guard (parted r) (got a r)) ≡ got a r → g ≡ got a r
    alone misfit e = no-misfit e
    alone (got b s) e = (guard-got (parted s) e).1

-- behind the codes
module _ (line : List ℕ) (c : Three) (row : Rest → ℕ → Row) where
  left-of : {m : List ℕ} → Left line m → Left line (skip m)
  left-of {m} t = left-trans t (skip-left m)

  unless-within : (b : Bool) (f : List ℕ → Got Three) (m : List ℕ) (k : Three → List ℕ → Out Row) → Left line m
      → ((a : Three) (r : List ℕ) → f m ≡ got a r → Left m r)
      → ((a : Three) (r : List ℕ) → Left line r → Within is_row_number line Any (k a r)) → Within is_row_number line Any (unless b wrong_coverage_or_depth f m k)
  unfolding is_row_number ◌and◌
  unless-within true f m k t s w = w all_nr m t
  unless-within false f m k t s w =
      fit-within is_row_number line Any wrong_coverage_or_depth (skip m) (f m) k refl (left-of t) (λ a r e. w a r (left-trans t (s a r e)))

  behind-within : (b : Bool) (m : List ℕ) → Left line m → Within is_row_number line Any (behind_codes b c row m)
  unfolding is_row_number ◌and◌
  behind-within b m₃ t₃ =
      unless-within b coverage_group m₃ _ t₃ (λ a r e. group-left coverage-group e) (λ v m₄ t₄.
      unless-within b depth_group m₄ _ t₄ (λ a r e. group-left depth-group e) (λ d m₅ t₅.
      fit-within is_row_number line Any wrong_descriptions (skip m₅) (description_group m₅) _ refl (left-of t₅) (λ s m₆ e₆.
      let t₆ = left-trans t₅ (description-left m₅ e₆) in
      demand-within is_row_number line Any (cond b (is_short (make_thirds c (v, (d, s)))) true) wrong_coverage_or_depth (skip m₅) _ refl (left-of t₅) (
      demand-within is_row_number line Any (all valid_coverage (make_thirds c (v, (d, s)))) wrong_coverage_or_depth (skip m₃) _ refl (left-of t₃) (
      demand-within is_row_number line Any (all valid_depth (make_thirds c (v, (d, s)))) wrong_coverage_or_depth (skip m₄) _ refl (left-of t₄) (
      fit-within is_row_number line Any wrong_width (skip m₆) (width_group m₆) _ refl (left-of t₆) (λ w m₇ e₇.
      demand-within is_row_number line Any (is_empty m₇) wrong_width (skip m₇) _ refl (left-of (left-trans t₆ (width-left m₆ e₇))) (passed tt))))))))

-- a row's fault is 5 or 24 to 28, and what is left where it arose is an end of the row
pub row_within : (line : List ℕ) → Within is_row_number line Any (find_row line)
unfolding find_row is_row_number ◌and◌
row_within line =
    fit-within is_row_number line Any no_row line (time_group line) _ refl here (λ t m₁ e₁.
    let t₁ = group-left time-group e₁ in
    fit-within is_row_number line Any wrong_runway (skip m₁) (runway_group m₁) _ refl (left-trans t₁ (skip-left m₁)) (λ p m₂ e₂.
    let t₂ = left-trans t₁ (group-left runway-group e₂) in
    fit-within is_row_number line Any wrong_codes (skip m₂) (code_group m₂) _ refl (left-trans t₂ (skip-left m₂)) (λ c m₃ e₃.
    behind-within line c (λ rest w. make_row (t, (p, (c, (rest, w))))) (short m₃) m₃ (left-trans t₂ (group-left code-group e₃)))))
