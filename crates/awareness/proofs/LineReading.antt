-- The awareness line read item by item.
use Rattle.std.specs.Prelude.{ℕ, zero, suc, ◌+◌, ◌-◌, ◌<◌, ◌≤◌, ◌≡◌, refl, List, [], ◌∷◌, ◌++◌, true, false, Some, length, take, drop, set, replicate, get_or}
use Rattle.std.proofs.Common.{sym, ◌∙◌, ap, append_assoc, append-nil, add-one, arith, length-take, drop_of_length-le, drop-cons, length-take-le}
use lib.Seq.{take-suc-set}
use Rattle.text.specs.Arrays.{pad}
use Rattle.text.specs.Read.{Got, misfit, got, guard, and_then, whole, skip, one_more, read_text, read_loose, read_many}
use Rattle.text.specs.Names.{read_name}
use Rattle.text.specs.Code.Held.{Reached}
use Rattle.text.specs.Laws.Base.{skip-stops}
use Rattle.text.specs.Laws.Arrays.{pad-length, pad-more}
use Rattle.items.specs.declared.Item.{Item}
use Rattle.items.specs.ReadItem.{read_item, read_body}
use Rattle.items.specs.Awareness.{in_order, stands_behind, most_items, blank_item, read_awareness, whole_awareness}
use Rattle.items.specs.Laws.Order.{order-on, order-off}
use Rattle.awareness.specs.Code.Held.{items_answer}

-- up to n items more: the first of them stands at the front of k, and where it does not, m is left
abbrev more_items : ℕ → List ℕ → List ℕ → Got (List Item)
more_items zero m k = got [] m
more_items (suc n) m k = one_more (read_item k) (read_many (read_loose read_item) n) m

-- the line that the items so far and those that are read behind them are
abbrev whole_with : List Item → Got (List Item) → Got (List Item)
whole_with is g = whole (and_then g (λ js r. guard (in_order (is ++ js)) (got (is ++ js) r)))

-- nothing is no item
no-item : read_item [] ≡ misfit
unfolding read_item read_body read_name read_text
no-item = refl

none_more : (n : ℕ) → more_items n [] [] ≡ got [] []
none_more zero = refl
none_more (suc n) = rw no-item

-- before the first item nothing is skipped, behind an item spaces are
more-first : (l : List ℕ) → whole_awareness l ≡ whole_with [] (more_items most_items l l)
unfolding whole_awareness read_awareness in_order
more-first [] = rw (none_more most_items)
more-first (x ∷ l) = go (read_item (x ∷ l))
  where
    joined : Got (Item × List Item) → Got (List Item)
    joined g = whole (and_then (and_then g (λ p r. got (p.0 ∷ p.1) r)) (λ js r. guard (in_order js) (got js r)))

    many : (i : Item) (g : Got (List Item)) → joined (and_then g (λ js r. got (i, js) r)) ≡ whole_with [] (and_then g (λ js r. got (i ∷ js) r))
    many i misfit = refl
    many i (got js r) = refl

    go : (g : Got Item) → joined (and_then g (λ i k. and_then (read_many (read_loose read_item) 31 k) (λ js r. got (i, js) r))) ≡ whole_with [] (one_more g (read_many (read_loose read_item) 31) (x ∷ l))
    go misfit = refl
    go (got i k) = many i (read_many (read_loose read_item) 31 k)

more-next : (n : ℕ) (m : List ℕ) → read_many (read_loose read_item) n m ≡ more_items n m (skip m)
unfolding read_many
more-next zero m = refl
more-next (suc n) m = refl

-- one item more is kept with those before it
one_kept : (is : List Item) (i : Item) (g : Got (List Item)) → whole_with is (and_then g (λ js r. got (i ∷ js) r)) ≡ whole_with (is ++ (i ∷ [])) g
one_kept is i misfit = refl
one_kept is i (got js r) = rw (append_assoc is (i ∷ []) js)

-- or refused, whatever follows
one-refused : (is : List Item) (i : Item) (g : Got (List Item)) → stands_behind is i ≡ false → whole_with is (and_then g (λ js r. got (i ∷ js) r)) ≡ misfit
one-refused is i misfit h = refl
one-refused is i (got js r) h = rw (order-off i is js h)

-- what is left where the reading stops is no item
some_left : (is : List Item) (x : ℕ) (m : List ℕ) → in_order is ≡ true → whole_with is (got [] (x ∷ m)) ≡ misfit
some_left is x m h = let e = append-nil is in rw (e, h)

none_left : (is : List Item) → in_order is ≡ true → whole_with is (got [] []) ≡ got is []
none_left is h = let e = append-nil is in rw (e, h)

-- the reading so far: `count` items are kept, the last ends at `behind`, and the next would stand at `at`
pub record SoFar (l : List ℕ) (items : List Item) (count behind at : ℕ) : Type 0 where
  pub few : count ≤ most_items
  pub kept : items ≡ pad most_items blank_item (take count items)
  pub order : in_order (take count items) ≡ true
  pub ended : drop behind l ≡ [] → drop at l ≡ []
  pub left : whole_awareness l ≡ whole_with (take count items) (more_items (most_items - count) (drop behind l) (drop at l))

pub begun : (l : List ℕ) → SoFar l (replicate most_items blank_item) 0 0 0
unfolding in_order
begun l = record { few = omega arith; kept = refl; order = refl; ended = λ e. e; left = more-first l }

module _ {l : List ℕ} {items : List Item} {count behind at : ℕ} (s : SoFar l items count behind at) where
  abbrev is : List Item
  is = take count items

  pub size : length items ≡ most_items
  size = let f = s.few in ap length s.kept ∙ pad-length most_items blank_item is (rw length-take (omega arith))

  counted : length is ≡ count
  counted = let f = s.few in length-take-le count items (omega (arith, size))

  -- nothing is left behind the last item
  pub ends : length l ≤ behind → items_answer (whole_awareness l) ≡ Some (record { count = count; items = items })
  ends h =
      let b = drop_of_length-le l h in
      let e : whole_awareness l ≡ got is [] = s.left ∙ rw (b, s.ended b, none_more) (none_left is s.order) in
      rw e (λ j. Some (record { count = counted j; items = sym s.kept j }))

  module _ (h : behind < length l) where
    next-byte : drop behind l ≡ get_or l behind 0 ∷ drop (suc behind) l
    next-byte = drop-cons l behind 0 h

    -- 32 items are kept
    pub full : most_items ≤ count → whole_awareness l ≡ misfit
    full f = let z : most_items - count ≡ 0 = omega arith in s.left ∙ rw (z, next-byte) (some_left is _ _ s.order)

    module _ (f : count < most_items) where
      room : most_items - count ≡ suc (most_items - (count + 1))
      room = omega arith

      -- no item stands there
      pub stray : read_item (drop at l) ≡ misfit → whole_awareness l ≡ misfit
      stray e = s.left ∙ rw (room, e, next-byte) (some_left is _ _ s.order)

      module _ {i : Item} (n : ℕ) (e : read_item (drop at l) ≡ got i (drop n l)) where
        abbrev rest : Got (List Item)
        rest = read_many (read_loose read_item) (most_items - (count + 1)) (drop n l)

        one_more_lem : whole_awareness l ≡ whole_with is (and_then rest (λ js k. got (i ∷ js) k))
        one_more_lem = s.left ∙ rw (room, e)

        -- one that may not follow those before it
        pub misplaced : stands_behind is i ≡ false → whole_awareness l ≡ misfit
        misplaced b = one_more_lem ∙ one-refused is i rest b

        -- one that may
        pub goes_on : {start : ℕ} → stands_behind is i ≡ true → Reached l (skip (drop n l)) start → SoFar l (set items count i) (count + 1) n start
        goes_on b z =
            let here : count < length items = omega (arith, size) in
            let one : take (count + 1) (set items count i) ≡ is ++ (i ∷ []) = rw add-one (take-suc-set items count i here) in
            record {
              few = omega arith;
              kept = ap (λ (xs : List Item). set xs count i) s.kept ∙ ap (λ (n : ℕ). set (pad most_items blank_item is) n i) (sym counted)
                  ∙ pad-more most_items blank_item is i (omega (arith, counted)) ∙ ap (pad most_items blank_item) (sym one);
              order = rw one (order-on i is s.order b);
              ended = λ e. z.left ∙ ap skip e ∙ skip-stops [] refl;
              left = one_more_lem ∙ one_kept is i rest ∙ rw (one, z.left) (ap (whole_with (is ++ (i ∷ []))) (more-next (most_items - (count + 1)) (drop n l)));
            }
