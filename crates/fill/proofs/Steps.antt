-- Texts and digits stored: what the functions' proofs need.
use Prim.Native.Nat.{ℕ, suc, ◌+◌, ◌-◌, ◌/◌, ◌%◌, ◌<◌, ◌≤◌}
use mathlib.Core.Path.{◌≡◌, refl, sym, ◌∙◌, ap}
use mathlib.Core.List.{List, [], ◌∷◌}
use native.Mathlib.Numerals.{add-one}
use native.Mathlib.Omega.{arith}
use lib.ListN.{length, drop, get_or, take, set, take-append-drop}
use lib.Seq.{length-sets, take-suc, length-take-le, sets, set_out}
use Rattle.text.specs.Piece.{byte, canonical}
use Rattle.text.specs.Numbers.{digits}
use Rattle.text.specs.Put.{told}
use Rattle.text.specs.Laws.Put.{told-near, sets-join, sets_last, sets-out, canonical-append}
use Rattle.text.specs.Laws.Sizes.{size, digits-size}

-- one byte more of a text that is being put
module _ (b : List ℕ) (a : ℕ) (t : List ℕ) (i : ℕ) (h : i < length t) where
  put_next : sets b a (take (i + 1) t) ≡ set (sets b a (take i t)) (a + i) (get_or t i 0)
  put_next =
      let k : i ≤ length t = omega arith in
      rw (add-one, take-suc t i 0 h, sets-join b a (take i t) (get_or t i 0 ∷ []), length-take-le i t k)

  pub put_on : (x : List ℕ) → x ≡ sets b a (take i t) → set x (a + i) (get_or t i 0) ≡ sets b a (take (i + 1) t)
  put_on x e = rw e (sym put_next)

-- a text that goes past the buffer's end stands there as what there is room for
pub put-part : (b : List ℕ) (a : ℕ) (t : List ℕ) (n : ℕ) → n ≤ length t → length b ≤ a + n → sets b a (take n t) ≡ sets b a t
put-part b a t n k l =
    let w : length (sets b a (take n t)) ≤ a + length (take n t) = rw (length-sets, length-take-le n t k) l in
    sym (ap (sets b a) (sym (take-append-drop n t)) ∙ sets-join b a (take n t) (drop n t) ∙ sets-out (sets b a (take n t)) (a + length (take n t)) (drop n t) w)

pub no-places : (x : ℕ) → canonical (digits 0 x) ≡ []
unfolding digits
no-places x = refl

pub digits_long : (n x : ℕ) → length (canonical (digits n x)) ≡ n
unfolding size
digits_long n x = digits-size n x

-- a buffer of one byte tells how long a text is
pub byte_tells : (n : ℕ) → n ≤ 65536 → told (0 ∷ []) n ≡ n
byte_tells n h = told-near (0 ∷ []) (omega arith)

-- the last digit is stored first
module _ (x : List ℕ) (a k y : ℕ) where
  last-digit : 0 < k → sets x a (canonical (digits k y)) ≡ sets (set x (a + (k - 1)) (y % 10 + 48)) a (canonical (digits (k - 1) (y / 10)))
  unfolding digits
  last-digit h =
      let z : k ≡ suc (k - 1) = omega arith in
      ap (λ (q : ℕ). sets x a (canonical (digits q y))) z
      ∙ ap (sets x a) (canonical-append (digits (k - 1) (y / 10)) (byte (y % 10 + 48) ∷ []))
      ∙ sets_last x a (canonical (digits (k - 1) (y / 10))) (y % 10 + 48)
      ∙ rw (digits_long (k - 1) (y / 10))

  pub digit-on : (c : ℕ) → c ≡ y % 10 + 48 → 0 < k → sets (set x (a + (k - 1)) c) a (canonical (digits (k - 1) (y / 10))) ≡ sets x a (canonical (digits k y))
  digit-on c e h = rw e (sym (last-digit h))

  pub digit-past : 0 < k → length x ≤ a + (k - 1) → sets x a (canonical (digits (k - 1) (y / 10))) ≡ sets x a (canonical (digits k y))
  digit-past h l = ap (λ (q : List ℕ). sets q a (canonical (digits (k - 1) (y / 10)))) (sym (set_out x (a + (k - 1)) (y % 10 + 48) l)) ∙ sym (last-digit h)
