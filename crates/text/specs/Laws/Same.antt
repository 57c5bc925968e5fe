-- Two lists compared one by one: what the comparison tells, and one step of it.
use Rattle.std.specs.Prelude.{ℕ, ◌+◌, ◌-◌, ◌<◌, ◌≤◌, ◌≡◌, refl, List, [], ◌∷◌, Bool, true, false, eqb, leb, length, drop, get_or}
use Rattle.std.proofs.Common.{sym, add-one, arith, drop_of_length-le, length-drop, eqb-true, eq-eqb, le-leb}
use Rattle.std.proofs.Math.Seq.{drop-cons}
use Rattle.std.proofs.lemmas.Bool.{lt-leb}
use Rattle.text.specs.Choice.{◌and◌, same_all, same_bytes}
use Rattle.text.specs.Laws.Base.{and-1, and-2, and_i, true-false}

module _ {A : Type 0} (p : A → A → Bool) where
  pub all_same : ((a b : A) → p a b ≡ true → a ≡ b) → (x y : List A) → same_all p x y ≡ true → x ≡ y
  all_same is [] [] e = refl
  all_same is [] (b ∷ y) e = true-false (sym e)
  all_same is (a ∷ x) [] e = true-false (sym e)
  all_same is (a ∷ x) (b ∷ y) e =
      let h = is a b (and-1 (p a b) (same_all p x y) e) in
      let t = all_same is x y (and-2 (p a b) (same_all p x y) e) in
      λ i. h i ∷ t i

  pub same-all : ((a : A) → p a a ≡ true) → (x : List A) → same_all p x x ≡ true
  same-all is [] = refl
  same-all is (a ∷ x) = and_i (is a) (same-all is x)

  module _ (z : A) (a b : List A) (i : ℕ) where
    pub same_end : length a ≤ i → i ≤ length b → same_all p (drop i a) (drop i b) ≡ leb (length b) i
    same_end h k = rw (drop_of_length-le a h) (go (drop i b) (length-drop i b))
      where
        go : (c : List A) → length c ≡ length b - i → same_all p [] c ≡ leb (length b) i
        go [] e = sym (le-leb (length b) i (omega arith))
        go (x ∷ c) e = sym (lt-leb (length b) i (omega arith))

    pub same-short : i < length a → length b ≤ i → same_all p (drop i a) (drop i b) ≡ false
    same-short h k = rw (drop-cons a i z h, drop_of_length-le b k)

    pub same-off : i < length a → i < length b → p (get_or a i z) (get_or b i z) ≡ false → same_all p (drop i a) (drop i b) ≡ false
    unfolding ◌and◌
    same-off h k e = rw (drop-cons a i z h, drop-cons b i z k, e)

    pub same-on : i < length a → i < length b → p (get_or a i z) (get_or b i z) ≡ true
        → same_all p (drop i a) (drop i b) ≡ same_all p (drop (i + 1) a) (drop (i + 1) b)
    unfolding ◌and◌
    same-on h k e = rw (add-one i, drop-cons a i z h, drop-cons b i z k, e)

-- bytes
pub same_true : (a b : List ℕ) → same_bytes a b ≡ true → a ≡ b
same_true = all_same eqb eqb-true

pub same_refl : (a : List ℕ) → same_bytes a a ≡ true
same_refl = same-all eqb (λ a. eq-eqb a a refl)
