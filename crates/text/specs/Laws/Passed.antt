-- Runs of bytes passed one by one, and block by block.
use Prim.Native.Nat.{ℕ, zero, suc, ◌+◌, ◌-◌, ◌<◌, ◌≤◌}
use Rattle.std.specs.Prelude.{◌≡◌, Bool, true, false, length, drop, get_or, take}
use Rattle.std.proofs.Math.Path.{refl}
use Rattle.std.proofs.Common.{sym, ◌∙◌, ap, add-one, length-drop, drop-drop, take-suc, le-leb, leb-true}
use mathlib.Core.List.{List, [], ◌∷◌}
use native.Mathlib.Omega.{arith}
use Rattle.std.proofs.Math.ListN.{drop_of_length-le}
use Rattle.std.proofs.Math.Seq.{drop-cons}
use Rattle.std.proofs.lemmas.Bool.{lt-leb}
use Rattle.text.specs.Read.{Got, misfit, got, and_then}
use Rattle.text.specs.Names.{read_count, past}
use Rattle.text.specs.Choice.{◌and◌, all}
use Rattle.text.specs.Code.Held.{is_got, starts_with}
use Rattle.text.specs.Laws.Arrays.{all-last}
use Rattle.text.specs.Laws.Base.{and-1, and-2}

-- one step of a run of a class, and of a count
module _ (p : ℕ → Bool) (m : List ℕ) (j : ℕ) where
  pub past_stop : length m ≤ j → past p (drop j m) ≡ drop j m
  unfolding past
  past_stop h = rw (drop_of_length-le m h)

  pub past-on : j < length m → p (get_or m j 0) ≡ true → past p (drop j m) ≡ past p (drop (j + 1) m)
  unfolding past
  past-on h e = rw (add-one, drop-cons m j 0 h, e)

  pub past_off : j < length m → p (get_or m j 0) ≡ false → past p (drop j m) ≡ drop j m
  unfolding past
  past_off h e = rw (drop-cons m j 0 h, e)

  module _ (k : ℕ) where
    pub count-stop : 0 < k → length m ≤ j → is_got (read_count p k (drop j m)) ≡ false
    unfolding read_count
    count-stop z h = let e : k ≡ suc (k - 1) = omega arith in rw (e, drop_of_length-le m h)

    pub count-off : 0 < k → j < length m → p (get_or m j 0) ≡ false → is_got (read_count p k (drop j m)) ≡ false
    unfolding read_count
    count-off z h q = let e : k ≡ suc (k - 1) = omega arith in rw (e, drop-cons m j 0 h, q)

    pub count-on : 0 < k → j < length m → p (get_or m j 0) ≡ true → is_got (read_count p k (drop j m)) ≡ is_got (read_count p (k - 1) (drop (j + 1) m))
    unfolding read_count
    count-on z h q = go (k - 1) (omega arith)
      where
        again : (g : Got (List ℕ)) → is_got (and_then {A = ℕ × List ℕ} (and_then g (λ b r. got (get_or m j 0, b) r)) (λ q r. got (q.0 ∷ q.1) r)) ≡ is_got g
        again misfit = refl
        again (got b r) = refl

        go : (n : ℕ) → k ≡ suc n → is_got (read_count p k (drop j m)) ≡ is_got (read_count p n (drop (j + 1) m))
        go n e = rw (e, add-one, drop-cons m j 0 h, q) (again (read_count p n (drop (suc j) m)))

-- one byte more of a block
pub all_more : (p : ℕ → Bool) (m : List ℕ) (k : ℕ) → k < length m → all p (take (k + 1) m) ≡ (all p (take k m) and p (get_or m k 0))
all_more p m k h = rw (add-one, take-suc m k 0 h) (all-last p (take k m) (get_or m k 0))

-- a block that does not fit in, and one that does
pub block_out : (p : ℕ → Bool) (n : ℕ) (m : List ℕ) → length m < n → starts_with n p m ≡ false
unfolding starts_with ◌and◌
block_out p n m h = rw (lt-leb n (length m) h)

pub block_in : (p : ℕ → Bool) (n : ℕ) (m : List ℕ) → n ≤ length m → starts_with n p m ≡ all p (take n m)
unfolding starts_with ◌and◌
block_in p n m h = rw (le-leb n (length m) h)

pub block-there : (p : ℕ → Bool) (n : ℕ) (m : List ℕ) → starts_with n p m ≡ true → (n ≤ length m) × (all p (take n m) ≡ true)
unfolding starts_with
block-there p n m b = (leb-true n (length m) (and-1 _ _ b), and-2 _ _ b)

-- past a block of a class stands what stands past the whole run
block-past : (p : ℕ → Bool) (n : ℕ) (m : List ℕ) → n ≤ length m → all p (take n m) ≡ true → past p m ≡ past p (drop n m)
unfolding past
block-past p zero m h a = refl
block-past p (suc n) [] h a = absurd (omega arith)
block-past p (suc n) (x ∷ m) h a = rw (and-1 _ _ a) (block-past p n m (omega arith) (and-2 _ _ a))

pub past-block : (p : ℕ → Bool) (s : List ℕ) (j n : ℕ) {k : List ℕ} → j ≤ length s → past p (drop j s) ≡ k → starts_with n p (drop j s) ≡ true
    → (j + n ≤ length s) × (past p (drop (j + n) s) ≡ k)
past-block p s j n h e b =
    let w = block-there p n (drop j s) b in
    (omega (arith, w.0, length-drop j s), ap (past p) (sym (drop-drop n j s)) ∙ sym (block-past p n (drop j s) w.0 w.1) ∙ e)

-- so many bytes of a class stand where there are so many and all are of it
module _ (p : ℕ → Bool) where
  again : (x : ℕ) (g : Got (List ℕ)) → is_got (and_then {A = ℕ × List ℕ} (and_then g (λ b r. got (x, b) r)) (λ q r. got (q.0 ∷ q.1) r)) ≡ is_got g
  again x misfit = refl
  again x (got b r) = refl

  pub count-in : (n : ℕ) (m : List ℕ) → n ≤ length m → is_got (read_count p n m) ≡ all p (take n m)
  unfolding read_count ◌and◌
  count-in zero m h = refl
  count-in (suc n) [] h = absurd (omega arith)
  count-in (suc n) (x ∷ m) h = go (p x) refl (count-in n m (omega arith))
    where
      go : (t : Bool) → p x ≡ t → is_got (read_count p n m) ≡ all p (take n m) → is_got (read_count p (suc n) (x ∷ m)) ≡ (p x and all p (take n m))
      go true e i = rw e (again x (read_count p n m) ∙ i)
      go false e i = rw e

  pub count-out : (n : ℕ) (m : List ℕ) → length m < n → is_got (read_count p n m) ≡ false
  unfolding read_count
  count-out zero m h = absurd (omega arith)
  count-out (suc n) [] h = refl
  count-out (suc n) (x ∷ m) h = go (p x) refl (count-out n m (omega arith))
    where
      go : (t : Bool) → p x ≡ t → is_got (read_count p n m) ≡ false → is_got (read_count p (suc n) (x ∷ m)) ≡ false
      go true e i = rw e (again x (read_count p n m) ∙ i)
      go false e i = rw e
