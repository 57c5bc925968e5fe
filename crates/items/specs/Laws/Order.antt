-- Items in order, judged one by one against those before.
use Rattle.std.specs.Prelude.{ℕ, ◌+◌, ◌<◌, ◌≤◌, ◌≡◌, Bool, length, take, drop, get_or}
use Rattle.std.proofs.Math.Path.{refl}
use Rattle.std.proofs.Common.{◌∙◌, ap, get_or-take, arith}
use mathlib.Core.List.{List, [], ◌∷◌, ◌++◌}
use Rattle.std.proofs.Math.Bool.{true, false}
use Rattle.std.proofs.Math.ListN.{length-take}
use Rattle.text.specs.Choice.{◌and◌, all}
use Rattle.text.specs.Laws.Base.{and-1, and-2, and_i, and_none, true-false}
use Rattle.text.specs.Laws.Lines.{all_append}
use Rattle.text.specs.Laws.Arrays.{all_end, all-on, all-off}
use Rattle.items.specs.declared.Item.{Item}
use Rattle.items.specs.Item.{valid_item}
use Rattle.items.specs.Awareness.{may_follow, may_precede, stands_behind, in_order, sound_items, blank_item}

-- one that fails behind others
one-fails : {A : Type 0} (p : A → Bool) (xs ys : List A) (i : A) → p i ≡ false → all p (xs ++ (i ∷ ys)) ≡ false
unfolding ◌and◌
one-fails p [] ys i h = rw h
one-fails p (x ∷ xs) ys i h = and_none (p x) (one-fails p xs ys i h)

module _ (i : Item) where
  pub order-on : (xs : List Item) → in_order xs ≡ true → stands_behind xs i ≡ true → in_order (xs ++ (i ∷ [])) ≡ true
  unfolding in_order may_precede
  order-on [] h s = and_i refl refl
  order-on (a ∷ xs) h s = and_i (all_append (may_follow a) xs (i ∷ []) (and-1 _ _ h) (and_i (and-1 _ _ s) refl)) (order-on xs (and-2 _ _ h) (and-2 _ _ s))

  pub order-off : (xs ys : List Item) → stands_behind xs i ≡ false → in_order (xs ++ (i ∷ ys)) ≡ false
  unfolding in_order may_precede ◌and◌
  order-off [] ys s = true-false s
  order-off (a ∷ xs) ys s = go (may_follow a i) refl s (λ h. order-off xs ys h)
    where
      go : (t : Bool) → may_follow a i ≡ t → (t and stands_behind xs i) ≡ false → (stands_behind xs i ≡ false → in_order (xs ++ (i ∷ ys)) ≡ false)
          → in_order (a ∷ (xs ++ (i ∷ ys))) ≡ false
      go true e h ih = and_none (all (may_follow a) (xs ++ (i ∷ ys))) (ih h)
      go false e h ih = rw (one-fails (may_follow a) xs ys i e)

  pub sound-on : (xs : List Item) → sound_items xs ≡ true → valid_item i ≡ true → stands_behind xs i ≡ true → sound_items (xs ++ (i ∷ [])) ≡ true
  unfolding sound_items
  sound-on xs h v s = and_i (all_append valid_item xs (i ∷ []) (and-1 _ _ h) (and_i v refl)) (order-on xs (and-2 _ _ h) s)

  pub sound-invalid : (xs ys : List Item) → valid_item i ≡ false → sound_items (xs ++ (i ∷ ys)) ≡ false
  unfolding sound_items ◌and◌
  sound-invalid xs ys v = rw (one-fails valid_item xs ys i v)

  pub sound-misplaced : (xs ys : List Item) → stands_behind xs i ≡ false → sound_items (xs ++ (i ∷ ys)) ≡ false
  unfolding sound_items
  sound-misplaced xs ys s = and_none (all valid_item (xs ++ (i ∷ ys))) (order-off xs ys s)

-- whether one may stand behind those of the first n from the k-th on
module _ (is : List Item) (n : ℕ) (i : Item) (k : ℕ) where
  pub behind-all : n ≤ k → stands_behind (drop k (take n is)) i ≡ true
  behind-all h = all_end (may_precede i) blank_item (take n is) k (rw length-take (omega arith))

  module _ (z : Item) (h : k < n) (w : k < length is) where
    pub behind-one : may_follow (get_or is k z) i ≡ true → stands_behind (drop k (take n is)) i ≡ stands_behind (drop (k + 1) (take n is)) i
    unfolding may_precede
    behind-one e = all-on (may_precede i) z (take n is) k (rw length-take (omega arith)) (ap (may_precede i) (get_or-take n is k z h) ∙ e)

    pub not_behind : may_follow (get_or is k z) i ≡ false → stands_behind (drop k (take n is)) i ≡ false
    unfolding may_precede
    not_behind e = all-off (may_precede i) z (take n is) k (rw length-take (omega arith)) (ap (may_precede i) (get_or-take n is k z h) ∙ e)
