-- The order's fields, and what fits where it goes.
use Prim.Native.Nat.{ℕ, ◌/◌, ◌<◌, ◌≤◌}
use mathlib.Core.Path.{◌≡◌, refl, sym, ap, ◌∙◌}
use mathlib.Core.Bool.{true}
use lib.Dec.{ltb}
use lib.ListN.{length, get_or}
use borrow.Author.Tests.{ltb-true, leb-true, eqb-true}
use native.Mathlib.Omega.{arith}
use Rattle.text.specs.Choice.{◌and◌, all}
use Rattle.text.specs.Laws.Base.{and-1, and-2}
use Rattle.text.specs.Laws.Arrays.{all_in}
use Rattle.radio.specs.declared.Field.{Field}
use Rattle.surface.specs.Descriptions.{dry}
use Rattle.surface.specs.declared.Third.{Third}
use Rattle.surface.specs.Third.{blank_third, valid_third, greatest_depth}
use Rattle.row.specs.declared.Row.{Row}
use Rattle.row.specs.Row.{third_of, greatest_width, three_that, valid_row}
use Rattle.radio.specs.declared.Field.TheVariants.{Minutes, Runway, Code, Coverage, Depth, Description, Width}
use Rattle.radio.specs.Minutes.{year_minutes}
use Rattle.radio.specs.Fields.{order, may_be}
use Rattle.radio.specs.Laws.Fields.{depth_small, third-numbers}
use Rattle.radio.specs.Code.Held.{of_row}

order-of-row : all of_row order ≡ true
unfolding ◌and◌
order-of-row = refl

pub all-of-row : (i : ℕ) (d : Field) → i < length order → of_row (get_or order i d) ≡ true
all-of-row i d h = all_in of_row d order i order-of-row h

-- a field of a third is one of three
pub third-place : (g : ℕ → Field) (f : Field) (i : ℕ) → f ≡ g i → of_row (g i) ≡ ltb i 3 → of_row f ≡ true → i < 3
third-place g f i e k h = ltb-true i 3 (sym k ∙ (ap of_row (sym e) ∙ h))

-- a number that may be there is small enough
module _ (f : Field) (x : ℕ) (may : may_be f x ≡ true) where
  may-as : (g : Field) → f ≡ g → may_be g x ≡ true
  may-as g e = ap (λ a. may_be a x) (sym e) ∙ may

  pub minutes-fit : f ≡ Minutes → x < year_minutes
  minutes-fit e = ltb-true x year_minutes (may-as Minutes e)

  pub runway-fits : f ≡ Runway → x ≤ 75
  runway-fits e = leb-true x 75 (and-2 _ _ (may-as Runway e))

  pub code_fits : (i : ℕ) → f ≡ Code i → x ≤ 6
  code_fits i e = leb-true x 6 (may-as (Code i) e)

  pub coverage-fits : (i : ℕ) → f ≡ Coverage i → x ≤ 4
  coverage-fits i e = leb-true x 4 (may-as (Coverage i) e)

  pub depth-fits : (i : ℕ) → f ≡ Depth i → x ≤ 999
  depth-fits i e = depth_small x (may-as (Depth i) e)

  pub description-fits : (i : ℕ) → f ≡ Description i → x ≤ dry
  description-fits i e = leb-true x dry (may-as (Description i) e)

  pub width_fits : f ≡ Width → x ≤ greatest_width
  width_fits e = leb-true x greatest_width (may-as Width e)

-- a third of a valid row holds small numbers
pub record Small (t : Third) : Type 0 where
  pub code : t.code ≤ 6
  pub coverage : t.coverage ≤ 100
  pub depth : t.depth ≤ greatest_depth
  pub description : t.description ≤ dry

pub third-small : (r : Row) → valid_row r ≡ true → (i : ℕ) → i < 3 → Small (third_of r i)
unfolding valid_row three_that
third-small r v i h =
    let three = and-2 _ _ (and-2 _ _ (and-2 _ _ v)) in
    let n = eqb-true (length r.thirds) 3 (and-1 _ _ three) in
    let t = third_of r i in
    let k = third-numbers t (all_in valid_third blank_third r.thirds i (and-2 _ _ three) (omega arith)) in
    let c = leb-true (t.coverage / 25) 4 k.covers in
    let b = k.back in
    record { code = leb-true t.code 6 k.codes; coverage = omega arith; depth = depth_small t.depth k.deep; description = leb-true t.description dry k.describes }
