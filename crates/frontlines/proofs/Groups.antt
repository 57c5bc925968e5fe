-- Groups of letters at a place of a line.
use Prim.Native.Nat.{ℕ, zero, suc, ◌+◌, ◌*◌, ◌≤◌}
use mathlib.Core.Path.{◌≡◌, refl, sym, ◌∙◌, ap}
use mathlib.Core.List.{List, [], ◌∷◌}
use mathlib.Core.Bool.{cond, Bool, true, false}
use Rattle.std.specs.Prelude.{Option, None, Some, MatchOption}
use native.Mathlib.Omega.{arith}
use native.Mathlib.Nat.{suc-mul}
use lib.Dec.{eqb, eqb-zero-suc, eqb-suc-suc}
use lib.ListN.{length, take, drop, drop_of_length-le}
use lib.Seq.{drop-cons, drop-drop, take_all}
use borrow.Author.Tests.{eqb-true, eqb-false}
use Rattle.text.specs.Choice.{◌and◌, all}
use Rattle.text.specs.Read.{Got, misfit, got, guard, and_then, or_else, read_gap, whole, read_word}
use Rattle.text.specs.Names.{is_letter, in_class, read_count}
use Rattle.text.specs.Arrays.{slots, past_slots}
use Rattle.text.specs.Code.Held.{Held, is_got}
use Rattle.text.specs.declared.Found.{Found}
use Rattle.text.specs.declared.Class.TheVariants.{Letters}
use Rattle.text.specs.Laws.Base.{true-false}
use Rattle.text.specs.Laws.Held.{text-on}
use Rattle.text.proofs.Laws.Combine.{gap-laws}
use Rattle.frontlines.specs.Letters.{read_letters, is_letters}
use Rattle.frontlines.specs.Laws.Letters.{letters-long, letters-laws, letter-no-space}

pub fits-off : {A : Type 0} (g : Got A) → is_got g ≡ false → g ≡ misfit
fits-off misfit h = refl
fits-off (got a r) h = true-false h

-- a byte before: what read_count does with the rest
again : (x : ℕ) (g : Got (List ℕ)) → is_got (and_then {A = ℕ × List ℕ} (and_then g (λ b r. got (x, b) r)) (λ q r. got (q.0 ∷ q.1) r)) ≡ is_got g
again x misfit = refl
again x (got b r) = refl

-- letters that fit are the bytes that stand there
pub record Stand (n : ℕ) (m : List ℕ) (g : Got (List ℕ)) : Type 0 where
  pub long : n ≤ length m
  pub is : g ≡ got (take n m) (drop n m)

count-stand : (p : ℕ → Bool) (n : ℕ) (m : List ℕ) → is_got (read_count p n m) ≡ true → Stand n m (read_count p n m)
unfolding read_count
count-stand p zero m h = record { long = omega arith; is = refl }
count-stand p (suc n) [] h = true-false (sym h)
count-stand p (suc n) (x ∷ m) h = go (p x) refl h (count-stand p n m)
  where
    go : (t : Bool) → p x ≡ t → is_got (and_then {A = ℕ × List ℕ} (and_then (guard t (got x m)) (λ a k. and_then (read_count p n k) (λ b r. got (a, b) r))) (λ q r. got (q.0 ∷ q.1) r)) ≡ true
        → (is_got (read_count p n m) ≡ true → Stand n m (read_count p n m)) → Stand (suc n) (x ∷ m) (read_count p (suc n) (x ∷ m))
    go false q k ih = true-false (sym k)
    go true q k ih =
        let y = ih (sym (again x (read_count p n m)) ∙ k) in
        let l = y.long in
        record { long = omega arith; is = rw (q, y.is) }

pub letters-stand : (n : ℕ) (m : List ℕ) → is_got (read_count (in_class Letters) n m) ≡ true → Stand n m (read_letters n m)
unfolding in_class
letters-stand n m h = count-stand is_letter n m h

pub letters-off : (n : ℕ) (m : List ℕ) → is_got (read_count (in_class Letters) n m) ≡ false → read_letters n m ≡ misfit
unfolding in_class
letters-off n m h = fits-off (read_count is_letter n m) h

-- a gap, and then what g reads
pub gap-on : {A : Type 0} (g : List ℕ → Got A) (m : List ℕ) {k : List ℕ} {f : Found} → Held k (read_word (32 ∷ []) 0 m) (Some f) → read_gap g m ≡ g (drop f.next k)
gap-on g m h = rw (text-on (32 ∷ []) m 0 h)

-- where the first reading finds nothing, the second is made
pub or-held : {m : List ℕ} {g : Got ℕ} (h : Got ℕ) (a r : Option Found) → Held m g a → MatchOption a (Held m h r) (λ x. r ≡ Some x) → Held m (or_else g h) r
or-held h None r p q = record { within = q.within; says = rw p.says q.says }
or-held h (Some x) r p q = rw q (record { within = p.within; says = rw p.says })

-- n letters by a test
slot-fits : (n : ℕ) (m : List ℕ) → is_got (read_letters n m) ≡ is_letters n (take n m)
unfolding read_count is_letters ◌and◌
slot-fits zero m = refl
slot-fits (suc n) [] = rw (eqb-zero-suc n)
slot-fits (suc n) (x ∷ m) = rw (eqb-suc-suc (length (take n m)) n) (go (is_letter x) (slot-fits n m))
  where
    none : (b : Bool) → false ≡ (b and false)
    none true = refl
    none false = refl

    go : (t : Bool) → is_got (read_letters n m) ≡ (eqb (length (take n m)) n and all is_letter (take n m))
        → is_got (and_then {A = ℕ × List ℕ} (and_then (guard t (got x m)) (λ a k. and_then (read_letters n k) (λ b r. got (a, b) r))) (λ q r. got (q.0 ∷ q.1) r))
        ≡ (eqb (length (take n m)) n and (t and all is_letter (take n m)))
    go true h = again x (read_letters n m) ∙ h
    go false h = none (eqb (length (take n m)) n)

letters-test : (n : ℕ) (m : List ℕ) → length m ≡ n → is_got (read_letters n m) ≡ is_letters n m
letters-test n m e = slot-fits n m ∙ ap (is_letters n) (take_all n m (omega arith))

pub letters_are : (n : ℕ) (m : List ℕ) → length m ≡ n → is_got (read_count (in_class Letters) n m) ≡ is_letters n m
unfolding in_class
letters_are = letters-test

other_length : (n : ℕ) (m : List ℕ) → eqb (length m) n ≡ false → is_letters n m ≡ false
unfolding is_letters ◌and◌
other_length n m u = rw u

-- a line of n letters
pub letters-whole : (n : ℕ) (m : List ℕ) → whole (read_letters n m) ≡ cond (is_letters n m) (got m []) misfit
letters-whole n m = go (is_got (read_letters n m)) refl (eqb (length m) n) refl
  where
    go : (t : Bool) → is_got (read_letters n m) ≡ t → (u : Bool) → eqb (length m) n ≡ u → whole (read_letters n m) ≡ cond (is_letters n m) (got m []) misfit
    go true f true u =
        let e = eqb-true (length m) n u in
        rw (sym (letters-test n m e) ∙ f, (count-stand is_letter n m f).is, take_all n m (omega arith), drop_of_length-le m {i = n} (omega arith))
    go false f true u = rw (sym (letters-test n m (eqb-true (length m) n u)) ∙ f, fits-off (read_letters n m) f)
    go true f false u =
        let s = count-stand is_letter n m f in
        let l = s.long in
        let k = eqb-false (length m) n u in
        rw (other_length n m u, s.is, drop-cons m n 0 (omega arith))
    go false f false u = rw (other_length n m u, fits-off (read_letters n m) f)

-- letters in slots of an array
count-more : (p : ℕ → Bool) (a b : ℕ) (m : List ℕ) → is_got (read_count p (a + b) m) ≡ (is_got (read_count p a m) and is_got (read_count p b (drop a m)))
unfolding read_count ◌and◌
count-more p zero b m = let z : 0 + b ≡ b = omega arith in rw z
count-more p (suc a) b [] = let z : suc a + b ≡ suc (a + b) = omega arith in rw z
count-more p (suc a) b (x ∷ m) = let z : suc a + b ≡ suc (a + b) = omega arith in rw z (go (p x) (count-more p a b m))
  where
    step : Bool → ℕ → Bool
    step t n = is_got (and_then {A = ℕ × List ℕ} (and_then (guard t (got x m)) (λ a k. and_then (read_count p n k) (λ b r. got (a, b) r))) (λ q r. got (q.0 ∷ q.1) r))

    go : (t : Bool) → is_got (read_count p (a + b) m) ≡ (is_got (read_count p a m) and is_got (read_count p b (drop a m))) → step t (a + b) ≡ (step t a and is_got (read_count p b (drop a m)))
    go true h = again x (read_count p (a + b) m) ∙ h ∙ ap (λ t. t and is_got (read_count p b (drop a m))) (sym (again x (read_count p a m)))
    go false h = refl

pub slots-fit : (w n : ℕ) (f : List ℕ) → is_got (read_count (in_class Letters) (n * w) f) ≡ all (is_letters w) (slots w n f)
unfolding in_class slots read_count
slots-fit w zero f = let z : 0 * w ≡ 0 = omega arith in rw z
slots-fit w (suc n) f =
    let z : suc n * w ≡ w + n * w = suc-mul n w ∙ omega arith in
    rw z (count-more is_letter w (n * w) f ∙ rw (slot-fits w f, slots-fit w n (drop w f)))

pub slots-past : (w n : ℕ) (f : List ℕ) → drop (n * w) f ≡ past_slots w n f
unfolding past_slots
slots-past w zero f = let z : 0 * w ≡ 0 = omega arith in rw z
slots-past w (suc n) f =
    let z : suc n * w ≡ w + n * w = suc-mul n w ∙ omega arith in
    rw z (sym (drop-drop (n * w) w f) ∙ slots-past w n (drop w f))

-- letters behind a gap
pub gap-long : (n : ℕ) (m : List ℕ) {a r : List ℕ} → read_gap (read_letters (suc n)) m ≡ got a r → length a ≡ suc n
gap-long n m {a} e = letters-long (suc n) a ((gap-laws (letters-laws n) letter-no-space).sound {m = m} e).0
