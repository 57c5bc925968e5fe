-- One step of a text, a number, a run and plain language: what the functions' proofs need.
use Rattle.std.proofs.Common.{◌≡◌, ℕ, zero, suc, ◌+◌, ◌-◌, ◌*◌, ◌^◌, ◌<◌, ◌≤◌, Bool, true, false, cond, not, ◌||◌, eqb, List, [], ◌∷◌, length, get_or, drop, sym, refl, ap, ◌∙◌, add-one, arith, lit<, drop_of_length-le, drop-cons, eq-eqb, ne_eqb, eqb-true, le-leb}
use mathlib.Core.Bool.{and-false}
use native.Mathlib.Nat.{pow-le-pow_right}
use borrow.Author.Tests.{eqb-false, not-true, lt-leb}
use Rattle.text.specs.Read.{Got, misfit, got, guard, and_then, skip, after, read_text}
use Rattle.text.specs.Names.{is_letter, is_mark, is_plain_byte, read_count, past, is_space}
use Rattle.text.specs.Choice.{◌and◌, all}
use Rattle.text.specs.Code.Held.{is_got}
use Rattle.text.specs.Numbers.{is_digit, read_digit, read_digits}
use Rattle.text.specs.Laws.Base.{carry, and-1, and-2, and_none}
use Rattle.text.specs.Laws.Numbers.{digits-laws}

module _ (m : List ℕ) (j : ℕ) where
  pub skip-end : length m ≤ j → skip (drop j m) ≡ drop j m
  unfolding skip
  skip-end h = rw (drop_of_length-le m h)

  pub skip-space : j < length m → get_or m j 0 ≡ 32 → skip (drop j m) ≡ skip (drop (j + 1) m)
  unfolding skip
  skip-space h e = rw (add-one, drop-cons m j 0 h, e)

  pub skip-other : j < length m → (get_or m j 0 ≡ 32 → ⊥) → skip (drop j m) ≡ drop j m
  unfolding skip
  skip-other h e = rw (drop-cons m j 0 h, ne_eqb (get_or m j 0) 32 e)

  module _ (t : List ℕ) (k : ℕ) where
    pub text-other : k < length t → j < length m → (get_or m j 0 ≡ get_or t k 0 → ⊥) → read_text (drop k t) (drop j m) ≡ misfit
    unfolding read_text
    text-other h i e = rw (drop-cons t k 0 h, drop-cons m j 0 i, ne_eqb (get_or t k 0) (get_or m j 0) (λ q. e (sym q)))

    text-step : k < length t → j < length m → get_or m j 0 ≡ get_or t k 0
        → read_text (drop k t) (drop j m) ≡ read_text (drop (k + 1) t) (after (get_or t k 0) (drop (j + 1) m))
    unfolding read_text
    text-step h i e = rw (add-one, add-one, drop-cons t k 0 h, drop-cons m j 0 i, e, eq-eqb (get_or t k 0) (get_or t k 0) refl)

    -- past a space of the text stands what is behind all spaces, past any other byte the next one
    pub text-gap : k < length t → j < length m → get_or m j 0 ≡ get_or t k 0 → get_or t k 0 ≡ 32 → read_text (drop k t) (drop j m) ≡ read_text (drop (k + 1) t) (skip (drop (j + 1) m))
    text-gap h i e z = text-step h i e ∙ rw z

    pub text-on : k < length t → j < length m → get_or m j 0 ≡ get_or t k 0 → (get_or t k 0 ≡ 32 → ⊥) → read_text (drop k t) (drop j m) ≡ read_text (drop (k + 1) t) (drop (j + 1) m)
    text-on h i e z = text-step h i e ∙ rw (ne_eqb (get_or t k 0) 32 z)

    pub text-done : length t ≤ k → read_text (drop k t) (drop j m) ≡ got tt (drop j m)
    unfolding read_text
    text-done h = rw (drop_of_length-le t h)

  digit_low : j < length m → get_or m j 0 < 48 → read_digit (drop j m) ≡ misfit
  digit_low h k = rw (drop-cons m j 0 h, lt-leb 48 (get_or m j 0) k)

  digit-high : j < length m → 57 < get_or m j 0 → read_digit (drop j m) ≡ misfit
  digit-high h k = rw (drop-cons m j 0 h, lt-leb (get_or m j 0) 57 k, and-false)

  digit-yes : j < length m → 48 ≤ get_or m j 0 → get_or m j 0 ≤ 57 → read_digit (drop j m) ≡ got (get_or m j 0 - 48) (drop (j + 1) m)
  digit-yes h k l = rw (add-one, drop-cons m j 0 h, le-leb 48 (get_or m j 0) k, le-leb (get_or m j 0) 57 l)

-- a text takes at least as many bytes as it has
skip-shorter : (m : List ℕ) → length (skip m) ≤ length m
unfolding skip
skip-shorter [] = omega arith
skip-shorter (x ∷ m) = go (eqb x 32) (skip-shorter m)
  where
    go : (t : Bool) → length (skip m) ≤ length m → length (cond t (skip m) (x ∷ m)) ≤ suc (length m)
    go true h = omega arith
    go false h = omega arith

pub text-short : (t m : List ℕ) → length m < length t → read_text t m ≡ misfit
unfolding read_text
text-short [] m h = absurd (omega arith)
text-short (c ∷ t) [] h = refl
text-short (c ∷ t) (x ∷ m) h = rw (text-short t (after c m) (go (eqb c 32) (skip-shorter m))) (none (eqb c x))
  where
    go : (b : Bool) → length (skip m) ≤ length m → length (cond b (skip m) m) < length t
    go true k = omega arith
    go false k = omega arith

    none : (b : Bool) → guard {A = Unit {0}} b misfit ≡ misfit
    none true = refl
    none false = refl

pub no-digits : (m : List ℕ) → read_digits 0 m ≡ got 0 m
unfolding read_digits
no-digits m = refl

-- n digits take n bytes
abbrev Took : ℕ → List ℕ → Got ℕ → Type 0
Took n m misfit = Unit
Took n m (got v r) = length m ≡ n + length r

digits-took : (n : ℕ) (m : List ℕ) → Took n m (read_digits n m)
unfolding read_digits
digits-took zero m = omega arith
digits-took (suc n) m = go (read_digits n m) (digits-took n m)
  where
    one : (x v : ℕ) (r : List ℕ) (b : Bool) → length m ≡ n + suc (length r)
        → Took (suc n) m (and_then {A = ℕ × ℕ} (and_then (and_then (guard b (got x r)) (λ c k. got (c - 48) k)) (λ d k. got (v, d) k)) (λ p k. got (p.0 * 10 + p.1) k))
    one x v r true h = omega arith
    one x v r false h = tt

    go : (g : Got ℕ) → Took n m g → Took (suc n) m (and_then {A = ℕ × ℕ} (and_then g (λ v k. and_then (read_digit k) (λ d q. got (v, d) q))) (λ p k. got (p.0 * 10 + p.1) k))
    go misfit h = tt
    go (got v []) h = tt
    go (got v (x ∷ r)) h = one x v r (is_digit x) h

pub digits-short : (n : ℕ) (m : List ℕ) → length m < n → read_digits n m ≡ misfit
digits-short n m h = go (read_digits n m) (digits-took n m)
  where
    go : (g : Got ℕ) → Took n m g → g ≡ misfit
    go misfit k = refl
    go (got v r) k = absurd (omega arith)

-- k digits were read, and what follows them is none
misfit-more : (m : List ℕ) (k i : ℕ) → read_digits k m ≡ misfit → read_digits (k + i) m ≡ misfit
unfolding read_digits
misfit-more m k zero e = let z : k + 0 ≡ k = omega arith in rw z e
misfit-more m k (suc i) e = let z : k + suc i ≡ suc (k + i) = omega arith in rw (z, misfit-more m k i e)

misfit-next : (m : List ℕ) (k : ℕ) {v : ℕ} {r : List ℕ} → read_digits k m ≡ got v r → read_digit r ≡ misfit → read_digits (suc k) m ≡ misfit
unfolding read_digits
misfit-next m k e d = rw (e, d)

on-next : (m : List ℕ) (k : ℕ) {v d : ℕ} {r q : List ℕ} → read_digits k m ≡ got v r → read_digit r ≡ got d q → read_digits (suc k) m ≡ got (v * 10 + d) q
unfolding read_digits
on-next m k e d = rw (e, d)

module _ (m a : List ℕ) (j k n v : ℕ) (e : read_digits k a ≡ got v (drop j m)) (h : k < n) where
  stop : read_digit (drop j m) ≡ misfit → read_digits n a ≡ misfit
  stop d =
      let z : n ≡ suc k + (n - suc k) = omega arith in
      rw z (misfit-more a (suc k) (n - suc k) (misfit-next a k e d))

  pub stop-low : j < length m → get_or m j 0 < 48 → read_digits n a ≡ misfit
  stop-low l x = stop (digit_low m j l x)

  pub stop-high : j < length m → 57 < get_or m j 0 → read_digits n a ≡ misfit
  stop-high l x = stop (digit-high m j l x)

  pub one_more : (b : ℕ) → b ≡ get_or m j 0 → j < length m → 48 ≤ b → b ≤ 57 → read_digits (k + 1) a ≡ got (v * 10 + (b - 48)) (drop (j + 1) m)
  one_more b q l x y = rw (add-one, q) (on-next a k e (digit-yes m j l (omega arith) (omega arith)))

-- a number of k digits
pub digits_low : (k : ℕ) (m : List ℕ) {r : List ℕ} {v : ℕ} → read_digits k m ≡ got v r → v < 10 ^ k
unfolding read_digits
digits_low zero m e = carry (λ x _. x < 1) e (lit< tt)
digits_low (suc k) m e = ((digits-laws k).sound {m = m} e).0

pub digits-fit : (k : ℕ) (m : List ℕ) {r : List ℕ} {v : ℕ} → k ≤ 8 → read_digits k m ≡ got v r → v < 100000000
digits-fit k m h e =
    let p : 10 ^ k ≤ 10 ^ 8 = pow-le-pow_right (lit< tt) h in
    let q = digits_low k m e in
    omega arith

pub count_none : (p : ℕ → Bool) (m : List ℕ) → is_got (read_count p 0 m) ≡ true
unfolding read_count
count_none p m = refl

-- spaces are passed as a run of them
pub skip-past : (m : List ℕ) → skip m ≡ past is_space m
unfolding skip past
skip-past [] = refl
skip-past (x ∷ m) = ap (λ (k : List ℕ). cond (eqb x 32) k (x ∷ m)) (skip-past m)

-- a test that holds of n numbers from a on holds of each
abbrev holds-from : (ℕ → Bool) → ℕ → ℕ → Bool
holds-from p a zero = true
holds-from p a (suc n) = p a and holds-from p (suc a) n

in-stretch : (p : ℕ → Bool) (a n c : ℕ) → holds-from p a n ≡ true → a ≤ c → c < a + n → p c ≡ true
in-stretch p a zero c h k l = absurd (omega arith)
in-stretch p a (suc n) c h k l = go (eqb a c) refl (in-stretch p (suc a) n c (and-2 _ _ h))
  where
    go : (t : Bool) → eqb a c ≡ t → (suc a ≤ c → c < suc a + n → p c ≡ true) → p c ≡ true
    go true e rest = rw (← eqb-true a c e) (and-1 _ _ h)
    go false e rest = let d = eqb-false a c e in rest (omega arith) (omega arith)

-- below `+` only the space is plain; from there to `:` every byte is, and behind it every letter
pub below-marks : (c : ℕ) → (c ≡ 32 → ⊥) → c < 43 → is_plain_byte c ≡ false
unfolding is_mark ◌and◌
below-marks c n h = not-true (is_plain_byte c) (rw (ne_eqb c 32 n) at (in-stretch (λ x. cond (eqb x 32) true (not (is_plain_byte x))) 0 43 c refl (omega arith) (omega arith)))

pub behind-marks : (c : ℕ) → 58 < c → is_plain_byte c ≡ is_letter c
unfolding is_mark
behind-marks c h =
    rw
    (lt-leb c 57 (omega arith), and-false, ne_eqb 32 c (λ e. absurd (omega arith)), ne_eqb 46 c (λ e. absurd (omega arith)), ne_eqb 44 c (λ e. absurd (omega arith)), ne_eqb 47 c (λ e. absurd (omega arith)), ne_eqb 45 c (λ e. absurd (omega arith)), ne_eqb 43 c (λ e. absurd (omega arith)), ne_eqb 58 c (λ e. absurd (omega arith)))
    (either (is_letter c))
  where
    either : (t : Bool) → (t || false) ≡ t
    either true = refl
    either false = refl

pub marks-and-digits : (c : ℕ) → 43 ≤ c → c ≤ 58 → is_plain_byte c ≡ true
unfolding is_mark ◌and◌
marks-and-digits c h k = in-stretch is_plain_byte 43 16 c refl h (omega arith)

-- one byte more that is looked at: x says whether it is odd
module _ (p : ℕ → Bool) (s : List ℕ) (j most x : ℕ) (h : j < length s) (e : x ≡ cond (p (get_or s j 0)) 0 1) where
  seen : (eqb most 0 and all p (drop j s)) ≡ (eqb most 0 and (eqb x 0 and all p (drop (j + 1) s)))
  unfolding ◌and◌
  seen = rw (e, add-one, drop-cons s j 0 h) (go (p (get_or s j 0)))
    where
      go : (t : Bool) → (eqb most 0 and (t and all p (drop (suc j) s))) ≡ (eqb most 0 and (eqb (cond t 0 1) 0 and all p (drop (suc j) s)))
      go true = refl
      go false = refl

  pub odd-seen : most < x → (eqb most 0 and all p (drop j s)) ≡ (eqb x 0 and all p (drop (j + 1) s))
  unfolding ◌and◌
  odd-seen l = let z = ne_eqb x 0 (λ z. absurd (omega arith)) in seen ∙ rw (z, and_none (eqb most 0) refl)

  pub odd-kept : x ≤ most → (eqb most 0 and all p (drop j s)) ≡ (eqb most 0 and all p (drop (j + 1) s))
  unfolding ◌and◌
  odd-kept l = seen ∙ go (eqb most 0) refl
    where
      go : (t : Bool) → eqb most 0 ≡ t → (t and (eqb x 0 and all p (drop (j + 1) s))) ≡ (t and all p (drop (j + 1) s))
      go true z = let k = eqb-true most 0 z in rw (eq-eqb x 0 (omega arith))
      go false z = refl
