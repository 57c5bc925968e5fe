-- How long a listing is.
use Rattle.std.specs.Prelude.{ℕ, ◌≤◌, ◌≡◌, refl, List, Bool, true, false, eqb, length}
use Rattle.std.proofs.Common.{length-append, eqb-true, arith}
use Rattle.std.proofs.lemmas.Bool.{eqb-false}
use Rattle.text.specs.Put.{Put}
use Rattle.text.specs.Laws.Put.{measured}
use Rattle.notice.specs.Reading.{reading}
use Rattle.notice.specs.Theorems.{read-valid, never-too-long}
use Rattle.listing.specs.Listing.{listing}
use Rattle.listing.specs.Laws.{listed-accepted, listed-refused, accepted-size, refused-size}

-- a listing has at most 4,113 bytes: those of the text, and 17 for the first line
pub short : (m : List ℕ) → length (listing m) ≤ 4113
unfolding listing
short m = go (eqb (reading m).refusal 0) refl
  where
    go : (k : Bool) → eqb (reading m).refusal 0 ≡ k → length (listing m) ≤ 4113
    go true e =
        let z = eqb-true (reading m).refusal 0 e in
        let v = read-valid m (reading m) refl z in
        rw (listed-accepted (reading m) z, length-append) (omega (arith, accepted-size (reading m).«record» v, never-too-long (reading m).«record» v))
    go false e = rw (listed-refused (reading m) (eqb-false (reading m).refusal 0 e)) (omega (arith, refused-size (reading m).refusal))

-- so its length is told whatever the buffer has
pub length-told : (m : List ℕ) {b x : List ℕ} {r : ℕ} → Put 0 (listing m) b x r → r ≡ length (listing m)
length-told m p = measured p (omega (arith, short m))
