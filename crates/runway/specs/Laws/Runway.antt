-- A runway's text is read as that runway and as no other.
use Rattle.std.specs.Prelude.{ℕ, zero, suc, ◌^◌, ◌<◌, ◌≤◌, ◌≡◌, refl, List, [], ◌∷◌, cond, Bool, true, false, ◌||◌, eqb, Option, length}
use Rattle.std.proofs.Common.{lit≤, eqb-true, arith}
use Rattle.text.specs.Choice.{head_is, ◌and◌}
use Rattle.text.specs.Piece.{byte, spell}
use Rattle.text.specs.Read.{Got, read_as, maybe_byte}
use Rattle.text.specs.Numbers.{is_digit}
use Rattle.text.specs.Laws.Base.{Laws, Head, Any, inner}
use Rattle.text.specs.Laws.Held.{told-one}
use Rattle.text.specs.Laws.Combine.{seq-laws, as-laws, relay, maybe-laws}
use Rattle.text.specs.Laws.Numbers.{digits-laws}
use Rattle.text.specs.Laws.Sizes.{size, append-size, digits-size, spell-size, name-size}
use Rattle.runway.specs.declared.RunwayFound.{RunwayFound}
use Rattle.runway.specs.Code.Held.{HeldRunway}
use Rattle.runway.specs.Runway.{side_name, is_side, side_of, runway_pieces, read_runway}

abbrev side_byte : ℕ → ℕ
side_byte zero = 0
side_byte (suc zero) = 76
side_byte (suc (suc zero)) = 67
side_byte (suc (suc (suc s))) = 82

side-inner : (b : ℕ) → is_side b ≡ true → inner b ≡ true
side-inner b h = go (eqb b 76) refl (eqb b 67) refl h
  where
    go : (t : Bool) → eqb b 76 ≡ t → (u : Bool) → eqb b 67 ≡ u → (t || (u || eqb b 82)) ≡ true → inner b ≡ true
    go true e u f k = rw (eqb-true b 76 e)
    go false e true f k = rw (eqb-true b 67 f)
    go false e false f k = rw (eqb-true b 82 k)

-- a byte of a side, or none, is a side and back
there : (b : ℕ) → cond (eqb b 0) true (is_side b) ≡ true → (side_of b ≤ 3) × (side_byte (side_of b) ≡ b)
there b h = go (eqb b 0) refl (eqb b 76) refl (eqb b 67) refl h
  where
    go : (z : Bool) → eqb b 0 ≡ z → (t : Bool) → eqb b 76 ≡ t → (u : Bool) → eqb b 67 ≡ u → cond z true (t || (u || eqb b 82)) ≡ true
        → (side_of b ≤ 3) × (side_byte (side_of b) ≡ b)
    go true q t e u f k = rw (eqb-true b 0 q) (lit≤ tt, refl)
    go false q true e u f k = rw (eqb-true b 76 e) (lit≤ tt, refl)
    go false q false e true f k = rw (eqb-true b 67 f) (lit≤ tt, refl)
    go false q false e false f k = rw (eqb-true b 82 k) (lit≤ tt, refl)

back : (s : ℕ) → s ≤ 3 → (cond (eqb (side_byte s) 0) true (is_side (side_byte s)) ≡ true) × (side_of (side_byte s) ≡ s)
back zero h = (refl, refl)
back (suc zero) h = (refl, refl)
back (suc (suc zero)) h = (refl, refl)
back (suc (suc (suc zero))) h = (refl, refl)
back (suc (suc (suc (suc s)))) h = absurd (omega arith)

same : (s : ℕ) → s ≤ 3 → cond (eqb (side_byte s) 0) [] (byte (side_byte s) ∷ []) ≡ spell (side_name s)
unfolding spell
same zero h = refl
same (suc zero) h = refl
same (suc (suc zero)) h = refl
same (suc (suc (suc zero))) h = refl
same (suc (suc (suc (suc s)))) h = absurd (omega arith)

side-laws : Laws (λ s. s ≤ 3) (λ s. spell (side_name s)) (read_as side_of (maybe_byte is_side)) Any (λ r. head_is is_side r ≡ false)
side-laws = relay (as-laws (maybe-laws is_side refl side-inner) (λ s. s ≤ 3) side_of side_byte there back) (λ s. spell (side_name s)) same

pub runway-laws : Laws (λ r. (r.0 < 10 ^ 2) × (r.1 ≤ 3)) (λ r. runway_pieces r.0 r.1) read_runway (Head is_digit) (λ r. head_is is_side r ≡ false)
runway-laws = seq-laws (digits-laws 1) side-laws (λ m h. tt)

-- a runway takes two or three bytes
side-size : (s : ℕ) → length (side_name s) ≤ 1
unfolding ◌and◌
side-size = name-size 1 ("" ∷ "L" ∷ "C" ∷ "R" ∷ []) refl

pub runway-size : (n s : ℕ) → size (runway_pieces n s) ≤ 3
runway-size n s = let h = side-size s in rw (append-size, digits-size, spell-size) (omega arith)

-- the promise of reading a runway leaves no choice
pub runway-one : {m : List ℕ} {g : Got (ℕ × ℕ)} {r s : Option RunwayFound} → HeldRunway m g r → HeldRunway m g s → r ≡ s
runway-one p q =
    told-one (λ f. (f.number, f.side)) (λ f. f.next) (λ a b v n. λ i. record { number = (v i).0; side = (v i).1; next = n i }) p q
