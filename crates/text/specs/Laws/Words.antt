-- Texts that begin alike: what they share is read once.
use Rattle.std.specs.Prelude.{ℕ, ◌≡◌, refl, List, [], ◌∷◌, ◌++◌, Bool, true, false, eqb}
use Rattle.text.specs.Read.{Got, misfit, got, guard, or_else, and_then, after, read_text, read_after, read_word}
use Rattle.text.specs.Texts.{Texts, read_first, behind}

-- a text is read in two parts, and so is one with a value
pub text-cut : (p q m : List ℕ) → read_text (p ++ q) m ≡ read_after p (read_text q) m
unfolding read_text
text-cut [] q m = refl
text-cut (c ∷ p) q [] = refl
text-cut (c ∷ p) q (x ∷ m) = go (eqb c x) (text-cut p q (after c m))
  where
    go : (t : Bool) → read_text (p ++ q) (after c m) ≡ read_after p (read_text q) (after c m)
        → guard t (read_text (p ++ q) (after c m)) ≡ and_then (guard t (read_text p (after c m))) (λ _ k. read_text q k)
    go true h = h
    go false h = refl

word_cut : (p q : List ℕ) (v : ℕ) (m : List ℕ) → read_word (p ++ q) v m ≡ read_after p (read_word q v) m
word_cut p q v m = rw (text-cut p q m) (go (read_text p m))
  where
    go : (g : Got (Unit {0})) → and_then (and_then g (λ _ k. read_text q k)) (λ _ r. got v r) ≡ and_then g (λ _ k. read_word q v k)
    go misfit = refl
    go (got a k) = refl

-- what texts share is read once
pub first-cut : (p : List ℕ) (ts : Texts) (m : List ℕ) → read_first (behind p ts) m ≡ read_after p (read_first ts) m
first-cut p [] m = go (read_text p m)
  where
    go : (g : Got (Unit {0})) → misfit ≡ and_then {B = ℕ} g (λ _ k. misfit)
    go misfit = refl
    go (got a k) = refl
first-cut p (t ∷ ts) m = rw (first-cut p ts m, word_cut p t.0 t.1 m) (go (read_text p m))
  where
    go : (g : Got (Unit {0})) → or_else (and_then g (λ _ k. read_word t.0 t.1 k)) (and_then g (λ _ k. read_first ts k))
        ≡ and_then g (λ _ k. read_first (t ∷ ts) k)
    go misfit = refl
    go (got a k) = refl
