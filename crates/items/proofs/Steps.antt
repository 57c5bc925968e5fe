-- One step of each loop, and what a test of the code tells.
use Rattle.std.specs.Prelude.{ℕ, suc, ◌+◌, ◌-◌, ◌<◌, ◌≤◌, ◌≡◌, ◌↔◌, refl, List, [], ◌∷◌, Bool, true, false, not, IsTrue, length, take, drop}
use Rattle.std.proofs.Common.{sym, arith}
use Rattle.text.specs.Choice.{◌and◌, all, same_bytes}
use Rattle.text.specs.Arrays.{slots, is_zero}
use Rattle.items.specs.Item.{valid_slot, is_new, slots_fit}
use Rattle.items.specs.Awareness.{in_order, blank_item, is_blank_item}
use Rattle.items.specs.Laws.Awareness.{blank-item}
use Rattle.items.specs.Laws.Parts.{blank-item-blank}
use Rattle.items.specs.declared.Item.{Item}

-- the first of the taxiways that are left, of which k are passed
module _ (n k : ℕ) (f : List ℕ) where
  module _ (h : k < n) where
    left : n - k ≡ suc (n - (k + 1))
    left = omega arith

    pub new-step : (w : List ℕ) → is_new w (slots 3 (n - k) f) ≡ (not (same_bytes w (take 3 f)) and is_new w (slots 3 (n - (k + 1)) (drop 3 f)))
    unfolding is_new slots
    new-step w = let z = left in rw z

    pub slots-step : slots_fit (n - k) f ≡ (valid_slot (take 3 f) and (is_new (take 3 f) (slots 3 (n - k - 1) (drop 3 f)) and slots_fit (n - (k + 1)) (drop 3 f)))
    unfolding slots_fit
    slots-step = let z = left in let e : suc (n - (k + 1)) - 1 ≡ n - (k + 1) = omega arith in rw (z, e)

  module _ (h : n ≤ k) where
    pub new-end : (w : List ℕ) → is_new w (slots 3 (n - k) f) ≡ true
    unfolding is_new slots
    new-end w = let z : n - k ≡ 0 = omega arith in rw z

    pub slots_end : slots_fit (n - k) f ≡ all is_zero f
    unfolding slots_fit
    slots_end = let z : n - k ≡ 0 = omega arith in rw z

-- no items are in order
pub none-in-order : (is : List Item) → length is ≡ 0 → in_order is ≡ true
unfolding in_order
none-in-order [] h = refl
none-in-order (i ∷ is) h = absurd (omega arith)

-- the blank item is blank, and no other is
pub blank-told : (i : Item) (b : Bool) → (IsTrue b ↔ (i ≡ blank_item)) → b ≡ is_blank_item i
blank-told i true h = let e = h.0 refl in sym (rw e blank-item-blank)
blank-told i false h = go (is_blank_item i) refl
  where
    go : (t : Bool) → is_blank_item i ≡ t → false ≡ t
    go true e = h.1 (blank-item i e)
    go false e = refl
