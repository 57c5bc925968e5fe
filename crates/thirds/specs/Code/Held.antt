-- What the code's answers say of the readers.
use Rattle.std.specs.Prelude.{ℕ, ◌≡◌, List, Option, IfSome, length, slice_index, cond, eqb}
use Rattle.text.specs.Piece.{bytes}
use Rattle.text.specs.Read.{Got}
use Rattle.text.specs.Code.Held.{Told}
use Rattle.thirds.specs.Groups.{Three}
use Rattle.thirds.specs.declared.Trio.{Trio}

-- the three numbers of an array
abbrev pub three : List ℕ → Three
three ns = (slice_index ns 0, slice_index ns 1, slice_index ns 2)

-- the answer r is the reading g of three numbers in m: they alone stand in its array
pub record HeldThree (m : List ℕ) (g : Got Three) (r : Option Trio) : Type 0 where
  pub told : Told (λ t. three t.numbers) (λ t. t.next) m g r
  pub no_more : IfSome r (λ t. length t.numbers ≡ 3)

-- what parts a third of a group from what stands before it: a gap the first, `/` each other
abbrev pub joint_text : ℕ → List ℕ
joint_text k = cond (eqb k 0) (bytes " ") (bytes "/")
