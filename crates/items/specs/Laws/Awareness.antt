-- The awareness line is read exactly if its items are valid and its text is typed.
use Rattle.std.specs.Prelude.{ℕ, suc, ◌≤◌, ◌≡◌, refl, List, [], ◌∷◌, ◌++◌, true, eqb, length, replicate}
use Rattle.std.proofs.Common.{sym, subst, ◌∙◌, ap, eqb-true, leb-true, le-leb, arith}
use Rattle.text.specs.Choice.{◌and◌, all}
use Rattle.text.specs.Piece.{Piece, loose, Typed, done, lay_all}
use Rattle.text.specs.Read.{misfit, got, skip, read_text, read_seq, read_as, read_loose, read_many}
use Rattle.text.specs.Names.{is_letter, read_name}
use Rattle.text.specs.Arrays.{is_zero}
use Rattle.text.specs.Laws.Base.{Laws, Head, Any, inline, and-1, and-2, and_i, carry, then-got, guard-got, not-space}
use Rattle.text.specs.Laws.Combine.{seq-laws, loose-laws, loosen}
use Rattle.text.specs.Laws.Many.{Every, many-laws, every-all, all-every}
use Rattle.text.specs.Laws.Arrays.{zeros-replicate}
use Rattle.items.specs.declared.Item.{Item}
use Rattle.items.specs.Item.{valid_item}
use Rattle.items.specs.ItemText.{item_pieces}
use Rattle.items.specs.ReadItem.{read_item, read_body}
use Rattle.items.specs.Awareness.{in_order, sound_items, valid_items, awareness_pieces, read_awareness, blank_item, is_blank, no_numbers, is_blank_item}
use Rattle.items.specs.Laws.Slots.{zero_of}
use Rattle.items.specs.Laws.Item.{item-laws}

abbrev Some : Item × List Item → Type 0
Some p = (valid_item p.0 ≡ true) × ((length p.1 ≤ 31) × Every (λ i. valid_item i ≡ true) p.1)

abbrev some : Item × List Item → List Piece
some p = item_pieces p.0 ++ lay_all (λ j. loose ∷ item_pieces j) p.1

some-laws : Laws Some some (read_seq read_item (read_many (read_loose read_item) 31)) (Head is_letter) (λ r. read_item (skip r) ≡ misfit)
some-laws = loosen (seq-laws item-laws (many-laws (loose-laws item-laws (not-space is_letter refl)) (λ m h. tt) 31) (λ m h. tt)) (λ m h. h) (λ m h. (tt, h))

none-next : read_item (skip []) ≡ misfit
unfolding read_item read_body skip read_name read_text
none-next = refl

valid-some : (p : Item × List Item) → Some p → in_order (p.0 ∷ p.1) ≡ true → valid_items (p.0 ∷ p.1) ≡ true
unfolding valid_items sound_items
valid-some p v o =
    let l = v.1.0 in
    and_i (le-leb (suc (length p.1)) 32 (omega arith)) (and_i (and_i v.0 (every-all (λ i. valid_item i ≡ true) valid_item (λ i h. h) p.1 v.1.1)) o)

aware-sound : (m : List ℕ) {is : List Item} {r : List ℕ} → read_awareness m ≡ got is r → (valid_items is ≡ true) × Typed (awareness_pieces is) m r
unfolding read_awareness awareness_pieces valid_items sound_items in_order ◌and◌
aware-sound [] e = carry (λ is r. (valid_items is ≡ true) × Typed (awareness_pieces is) [] r) e (refl, done)
aware-sound (x ∷ m) {is} {r} e =
    let t = then-got (read_as (λ p. p.0 ∷ p.1) (read_seq read_item (read_many (read_loose read_item) 31)) (x ∷ m)) e in
    let g = guard-got (in_order t.val) t.two in
    let u = then-got (read_seq read_item (read_many (read_loose read_item) 31) (x ∷ m)) t.one in
    let y = some-laws.sound u.one in
    let p = u.val in
    let z : got (p.0 ∷ p.1) u.mid ≡ got is r = u.two ∙ g.1 in
    let o : in_order (p.0 ∷ p.1) ≡ true = carry (λ is r. in_order t.val ≡ true → in_order is ≡ true) (sym u.two) (λ h. h) g.0 in
    carry (λ is r. (valid_items is ≡ true) × Typed (awareness_pieces is) (x ∷ m) r) z (valid-some p y.0 o, y.1)

aware-complete : (is : List Item) {m r : List ℕ} → valid_items is ≡ true → Typed (awareness_pieces is) m r → r ≡ [] → read_awareness m ≡ got is r
unfolding read_awareness awareness_pieces valid_items sound_items in_order
aware-complete [] v done e = ap read_awareness e ∙ ap (got []) (sym e)
aware-complete (i ∷ is) {m} {r} v t e = go m t (some-laws.starts (i, is) w t n)
  where
    k : length is ≤ 31
    k = let h = leb-true (suc (length is)) 32 (and-1 _ _ v) in omega arith

    w : Some (i, is)
    w = (and-1 _ _ (and-1 _ _ (and-2 _ _ v)), (k, all-every (λ i. valid_item i ≡ true) valid_item (λ i h. h) is (and-2 _ _ (and-1 _ _ (and-2 _ _ v)))))

    n : read_item (skip r) ≡ misfit
    n = subst (λ r. read_item (skip r) ≡ misfit) (sym e) none-next

    go : (m : List ℕ) → Typed (some (i, is)) m r → Head is_letter m → read_awareness m ≡ got (i ∷ is) r
    go [] t h = absurd h
    go (x ∷ m) t h = rw (some-laws.complete (i, is) w t n, and-2 _ _ (and-2 _ _ v))

aware-within : (is : List Item) → valid_items is ≡ true → inline (awareness_pieces is) ≡ true
unfolding awareness_pieces valid_items sound_items inline in_order
aware-within [] v = refl
aware-within (i ∷ is) v =
    let k : length is ≤ 31 = let h = leb-true (suc (length is)) 32 (and-1 _ _ v) in omega arith in
    some-laws.within (i, is) (
      and-1 _ _ (and-1 _ _ (and-2 _ _ v)),
      (k, all-every (λ i. valid_item i ≡ true) valid_item (λ i h. h) is (and-2 _ _ (and-1 _ _ (and-2 _ _ v)))),
    )

pub awareness-laws : Laws (λ is. valid_items is ≡ true) awareness_pieces read_awareness Any (λ r. r ≡ [])
awareness-laws = record { sound = λ {a} {m} e. aware-sound m e; complete = aware-complete; starts = λ is v t h. tt; within = aware-within }

-- blank items
pub blank-item : (i : Item) → is_blank_item i ≡ true → i ≡ blank_item
unfolding is_blank_item no_numbers is_blank
blank-item i h =
    let n = and-1 _ _ h in
    let n₂ = and-2 _ _ n in
    let n₃ = and-2 _ _ n₂ in
    let n₄ = and-2 _ _ n₃ in
    let n₅ = and-2 _ _ n₄ in
    let a = eqb-true i.letter 0 (and-1 _ _ n) in
    let b = eqb-true i.number 0 (and-1 _ _ n₂) in
    let c = eqb-true i.side 0 (and-1 _ _ n₃) in
    let d = eqb-true i.amount 0 (and-1 _ _ n₄) in
    let e = eqb-true i.edge 0 (and-1 _ _ n₅) in
    let f = eqb-true i.count 0 (and-2 _ _ n₅) in
    let g = zeros i.taxiways 24 (and-1 _ _ (and-2 _ _ h)) in
    let k = zeros i.name 16 (and-2 _ _ (and-2 _ _ h)) in
    λ j. record { letter = a j; number = b j; side = c j; amount = d j; edge = e j; count = f j; taxiways = g j; name = k j }
  where
    zeros : (l : List ℕ) (n : ℕ) → (eqb (length l) n and all is_zero l) ≡ true → l ≡ replicate n 0
    zeros l n h = zeros-replicate 0 is_zero zero_of l (and-2 _ _ h) ∙ ap (λ n. replicate n 0) (eqb-true (length l) n (and-1 _ _ h))
