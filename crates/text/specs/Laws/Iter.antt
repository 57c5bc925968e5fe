-- What the library answers of lists, in the words of text `Choice`: `iter().all` and `==`.
use Rattle.std.specs.Prelude.{zero, suc, ◌≡◌, refl, List, [], ◌∷◌, Bool, true, false, ◌&&◌, ◌↔◌, IsTrue, EachIndex, slice_index_or}
use Rattle.std.proofs.Common.{sym, ◌∙◌, ap, arith}
use Rattle.std.specs.List.{list_all}
use Rattle.std.specs.Cmp.Lexicographic.{pointwise}
use Rattle.text.specs.Choice.{◌and◌, all, same_all}
use Rattle.text.specs.Laws.Base.{and-1, and-2, and_i, true-false}

-- both words for two tests that hold
pub and-is : (a b : Bool) → (a && b) ≡ (a and b)
unfolding ◌and◌
and-is true b = refl
and-is false b = refl

pub all-list : {A : Type 0} (p : A → Bool) (xs : List A) → list_all p xs ≡ all p xs
all-list p [] = refl
all-list p (x ∷ xs) = and-is (p x) (list_all p xs) ∙ ap (λ b. p x and b) (all-list p xs)

pub all_answer : {A : Type 0} (p : A → Bool) (xs : List A) {r : Bool} → r ≡ list_all p xs → r ≡ all p xs
all_answer p xs e = e ∙ all-list p xs

pub same-pointwise : {A : Type 0} (p : A → A → Bool) (xs ys : List A) → pointwise p xs ys ≡ same_all p xs ys
same-pointwise p [] [] = refl
same-pointwise p [] (y ∷ ys) = refl
same-pointwise p (x ∷ xs) [] = refl
same-pointwise p (x ∷ xs) (y ∷ ys) = and-is (p x y) (pointwise p xs ys) ∙ ap (λ b. p x y and b) (same-pointwise p xs ys)

-- a test that holds at each place holds of all
each-all : {A : Type 0} (p : A → Bool) (xs : List A) (d : A) → EachIndex xs (λ k. IsTrue (p (slice_index_or xs k d))) → all p xs ≡ true
each-all p [] d h = refl
each-all p (x ∷ xs) d h = and_i (h 0 (omega arith)) (each-all p xs d (λ k l. h (suc k) (omega arith)))

all-each-index : {A : Type 0} (p : A → Bool) (xs : List A) (d : A) → all p xs ≡ true → EachIndex xs (λ k. IsTrue (p (slice_index_or xs k d)))
all-each-index p [] d h k l = absurd (omega arith)
all-each-index p (x ∷ xs) d h zero l = and-1 _ _ h
all-each-index p (x ∷ xs) d h (suc k) l = all-each-index p xs d (and-2 _ _ h) k (omega arith)

pub all_each : {A : Type 0} (p : A → Bool) (xs : List A) (d : A) {b : Bool} → (IsTrue b ↔ EachIndex xs (λ k. IsTrue (p (slice_index_or xs k d)))) → b ≡ all p xs
all_each p xs d {b} h = go b refl (all p xs) refl
  where
    go : (u : Bool) → b ≡ u → (v : Bool) → all p xs ≡ v → b ≡ all p xs
    go true e v f = e ∙ sym (each-all p xs d (h.0 e))
    go false e false f = e ∙ sym f
    go false e true f = absurd (true-false (sym (h.1 (all-each-index p xs d f)) ∙ e))
