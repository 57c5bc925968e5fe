-- The size of a signed difference, in plain numbers.
use Rattle.std.specs.Prelude.{ℕ, zero, suc, ◌+◌, ◌-◌, ◌≡◌, refl, cond, Bool, true, false, leb, ltb, nat_abs}
use Rattle.std.proofs.Math.IntN.{sub_ℕ}
use Rattle.std.proofs.Common.{ltb-true, ltb-false, leb-true, leb-false, le-leb, arith}
use Rattle.std.proofs.lemmas.Bool.{lt-leb}
use Rattle.due.specs.Third.{rise, size}

sub-size : (a b : ℕ) → nat_abs (sub_ℕ a b) ≡ (a - b) + (b - a)
sub-size a b = go (ltb a b) refl
  where
    go : (t : Bool) → ltb a b ≡ t → nat_abs (sub_ℕ a b) ≡ (a - b) + (b - a)
    go true e = let h = ltb-true a b e in rw e (omega arith)
    go false e = let h = ltb-false a b e in rw e (omega arith)

-- one of the two differences is zero
pub size_is : (old new : ℕ) → size (rise old new) ≡ (new - old) + (old - new)
unfolding size rise
size_is zero new = omega arith
size_is (suc old) new = sub-size new (suc old)

pub size-swap : (old new : ℕ) → size (rise old new) ≡ size (rise new old)
size-swap old new = omega (arith, size_is old new, size_is new old)

-- "the difference up or down reaches the figure"
pub size_reaches : (f old new : ℕ) → leb f (size (rise old new)) ≡ cond (leb (old + f) new) true (leb (new + f) old)
size_reaches f old new = go (leb (old + f) new) refl (leb (new + f) old) refl
  where
    go : (u : Bool) → leb (old + f) new ≡ u → (d : Bool) → leb (new + f) old ≡ d → leb f (size (rise old new)) ≡ cond u true d
    go true p d q = le-leb f (size (rise old new)) (omega (arith, size_is old new, leb-true (old + f) new p))
    go false p true q = le-leb f (size (rise old new)) (omega (arith, size_is old new, leb-true (new + f) old q))
    go false p false q = lt-leb f (size (rise old new)) (omega (arith, size_is old new, leb-false (old + f) new p, leb-false (new + f) old q))
