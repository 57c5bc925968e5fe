-- Items and plain language in their arrays: valid ones are held, and what is held is valid.
use Rattle.std.specs.Prelude.{ℕ, suc, ◌≤◌, ◌≡◌, List, [], ◌∷◌, true}
use Rattle.std.proofs.Math.Path.{refl}
use Rattle.std.proofs.Common.{sym, subst, eqb-true, eq-eqb, leb-true, le-leb, arith}
use Rattle.std.proofs.Math.ListN.{length}
use Rattle.text.specs.Choice.{◌and◌}
use Rattle.text.specs.Arrays.{pad, is_zero}
use Rattle.text.specs.Laws.Base.{and-1, and-2, and_i}
use Rattle.text.specs.Laws.Arrays.{array-there, array_back}
use Rattle.items.specs.declared.Item.{Item}
use Rattle.items.specs.Awareness.{most_items, valid_items, blank_item, is_blank_item, no_numbers, is_blank}
use Rattle.items.specs.Language.{most_language, valid_language}
use Rattle.items.specs.Laws.Awareness.{blank-item}
use Rattle.items.specs.declared.Items.{Items}
use Rattle.items.specs.declared.Language.{Language}
use Rattle.items.specs.Parts.{items_of, make_items, holds_items, none_or_language, language_of, make_language, holds_language}

-- items
pub blank-item-blank : is_blank_item blank_item ≡ true
unfolding is_blank_item no_numbers is_blank ◌and◌
blank-item-blank = refl

few-items : (is : List Item) → valid_items is ≡ true → length is ≤ most_items
unfolding valid_items
few-items is v = leb-true (length is) most_items (and-1 _ _ v)

module _ (is : List Item) (v : valid_items is ≡ true) where
  pub items_kept : items_of (make_items is) ≡ is
  items_kept = (array-there blank_item is_blank_item blank-item blank-item-blank most_items is (few-items is v)).1

  pub items-held : holds_items (make_items is) ≡ true
  unfolding holds_items
  items-held =
      let f = few-items is v in
      let a = array-there blank_item is_blank_item blank-item blank-item-blank most_items is f in
      and_i (le-leb (length is) most_items f) (and_i (eq-eqb (length (pad most_items blank_item is)) most_items a.0)
      (and_i (subst (λ l. valid_items l ≡ true) (sym a.1) v) a.2))

module _ (x : Items) (valid : holds_items x ≡ true) where
  pub items-valid : valid_items (items_of x) ≡ true
  unfolding holds_items
  items-valid = let h = valid in and-1 _ _ (and-2 _ _ (and-2 _ _ h))

  pub items-made : make_items (items_of x) ≡ x
  unfolding holds_items
  items-made =
      let h = valid in
      let w = array_back blank_item is_blank_item blank-item blank-item-blank most_items x.count x.items (leb-true x.count most_items (and-1 _ _ h))
      (eqb-true (length x.items) most_items (and-1 _ _ (and-2 _ _ h))) (and-2 _ _ (and-2 _ _ (and-2 _ _ h))) in
      λ i. record { count = w.0 i; items = w.1 i }

-- plain language
short-language : (l : List ℕ) → none_or_language l ≡ true → length l ≤ most_language
unfolding none_or_language valid_language
short-language [] v = omega arith
short-language (c ∷ l) v = leb-true (suc (length l)) most_language (and-1 _ _ (and-2 _ _ v))

zero_of : (x : ℕ) → is_zero x ≡ true → x ≡ 0
zero_of x h = eqb-true x 0 h

module _ (l : List ℕ) (v : none_or_language l ≡ true) where
  pub language-kept : language_of (make_language l) ≡ l
  language-kept = (array-there 0 is_zero zero_of refl most_language l (short-language l v)).1

  pub language-held : holds_language (make_language l) ≡ true
  unfolding holds_language
  language-held =
      let f = short-language l v in
      let a = array-there 0 is_zero zero_of refl most_language l f in
      and_i (le-leb (length l) most_language f) (and_i (eq-eqb (length (pad most_language 0 l)) most_language a.0)
      (and_i (subst (λ k. none_or_language k ≡ true) (sym a.1) v) a.2))

module _ (x : Language) (valid : holds_language x ≡ true) where
  pub language-valid : none_or_language (language_of x) ≡ true
  unfolding holds_language
  language-valid = let h = valid in and-1 _ _ (and-2 _ _ (and-2 _ _ h))

  pub language-made : make_language (language_of x) ≡ x
  unfolding holds_language
  language-made =
      let h = valid in
      let w = array_back 0 is_zero zero_of refl most_language x.length x.bytes (leb-true x.length most_language (and-1 _ _ h))
      (eqb-true (length x.bytes) most_language (and-1 _ _ (and-2 _ _ h))) (and-2 _ _ (and-2 _ _ (and-2 _ _ h))) in
      λ i. record { length = w.0 i; bytes = w.1 i }
