-- "Over" a figure of Table 1 is what "to" it leaves.
use Rattle.std.specs.Prelude.{ℕ, ◌≡◌, refl, Bool, true, false, not, leb, ltb, ℤ, pos, negsuc}
use Rattle.std.specs.Int.Signed.{le_z, lt_z}
use Rattle.std.proofs.Common.{leb-true, leb-false, lt-ltb, le-ltb}

pub over-is : (mm d : ℕ) → ltb mm d ≡ not (leb d mm)
over-is mm d = go (leb d mm) refl
  where
    go : (t : Bool) → leb d mm ≡ t → ltb mm d ≡ not t
    go true e = le-ltb mm d (leb-true d mm e)
    go false e = lt-ltb mm d (leb-false d mm e)

pub milder-is : (tenths t : ℤ) → lt_z tenths t ≡ not (le_z t tenths)
milder-is (pos a) (pos b) = over-is a b
milder-is (pos a) (negsuc b) = refl
milder-is (negsuc a) (pos b) = refl
milder-is (negsuc a) (negsuc b) = over-is b a
