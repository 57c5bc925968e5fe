-- An item has at most 46 bytes, so that 32 of them have at most 1503.
use Rattle.std.specs.Prelude.{ℕ, suc, ◌+◌, ◌≤◌, ◌≡◌, refl, List, [], ◌∷◌, map, true, eqb, length}
use Rattle.std.proofs.Common.{◌∙◌, lit≤, eqb-true, leb-true, arith}
use Rattle.std.proofs.lemmas.List.{length-map}
use Rattle.text.specs.Choice.{◌and◌, all}
use Rattle.text.specs.Piece.{gap, loose, bytes, words, spell, verbatim, lay_all}
use Rattle.text.specs.Names.{is_name}
use Rattle.text.specs.Numbers.{digits}
use Rattle.text.specs.Arrays.{slots}
use Rattle.text.specs.Laws.Base.{and-1, and-2}
use Rattle.text.specs.Laws.Many.{Every, all-every}
use Rattle.text.specs.Laws.Arrays.{slots_length}
use Rattle.text.specs.Laws.Sizes.{size, cons-size, no_size, append-size, digits-size, number_size, spell-size, verbatim-size, all-size, name-size, run-size}
use Rattle.text.specs.Laws.Sizes.{cond-size}
use Rattle.runway.specs.Runway.{runway_pieces}
use Rattle.runway.specs.Laws.Runway.{runway-size}
use Rattle.items.specs.declared.Item.{Item}
use Rattle.items.specs.Item.{letter_i, letter_j, letter_k, letter_l, letter_m, letter_n, letter_o, letter_p, valid_item, valid_slot, name_at_front}
use Rattle.items.specs.ItemText.{taxiways_of, of_runway, of_taxiways, edge_name, is_named, item_text, item_pieces}
use Rattle.items.specs.Awareness.{sound_items, valid_items, awareness_pieces}
use Rattle.items.specs.Laws.Item.{valid-parts, array, name-long}

edge-size : (e : ℕ) → length (edge_name e) ≤ 2
unfolding ◌and◌
edge-size = name-size 2 ("" ∷ "L" ∷ "R" ∷ "LR" ∷ []) refl

slots-size : (ss : List (List ℕ)) → all valid_slot ss ≡ true → Every (λ w. size (gap ∷ verbatim w) ≤ 4) (map name_at_front ss)
unfolding valid_slot
slots-size [] h = tt
slots-size (s ∷ ss) h =
    let n = eqb-true (length s) 3 (and-1 _ _ (and-1 _ _ h)) in
    let k = run-size is_name s in
    (rw (cons-size, verbatim-size) (omega arith), slots-size ss (and-2 _ _ h))

-- `RWY rr` and what is said
runway-said : (i : Item) (said : List ℕ) → size (of_runway i said) ≤ 7 + length said
runway-said i said = let r = runway-size i.number i.side in
    rw (append-size (words "RWY ") _, append-size (runway_pieces i.number i.side) _, spell-size, spell-size) (omega arith)

module _ (i : Item) (h : valid_item i ≡ true) where
  taxiways-said : (said : List ℕ) → size (of_taxiways i said) ≤ 35 + length said
  taxiways-said said =
      let a = array i.count i.taxiways (valid-parts i h).taxiways in
      let m = a.most in
      let ss = slots 3 i.count i.taxiways in
      let l : length (taxiways_of i) ≡ i.count = length-map ss name_at_front ∙ slots_length 3 i.count i.taxiways in
      let k = all-size (λ w. gap ∷ verbatim w) 4 (taxiways_of i) (slots-size ss a.slots) in
      rw (append-size (words "TWY") _, append-size (lay_all (λ w. gap ∷ verbatim w) (taxiways_of i)) _, spell-size, spell-size) (omega arith)

  text-size : size (item_text i) ≤ 45
  unfolding item_text
  text-size =
      let e = edge-size i.edge in
      let a = number_size 3 i.amount in
      let k = run-size is_name i.name in
      let l = name-long i.letter i.name (valid-parts i h).name in
      cond-size 45 (eqb i.letter letter_i) _ _ (let s = runway-said i (bytes " REDUCED TO ") in rw append-size (omega arith))
      (cond-size 45 (eqb i.letter letter_j) _ _ (rw spell-size (lit≤ tt))
      (cond-size 45 (eqb i.letter letter_k) _ _ (let s = runway-said i (bytes " LOOSE SAND") in omega arith)
      (cond-size 45 (eqb i.letter letter_l) _ _ (let s = runway-said i (bytes " CHEMICALLY TREATED") in omega arith)
      (cond-size 45 (eqb i.letter letter_m) _ _ (let s = runway-said i (bytes " SNOWBANK ") in
      rw (
        append-size (of_runway i (bytes " SNOWBANK ")) _,
        append-size (spell (edge_name i.edge)) _,
        append-size (digits 2 i.amount) _,
        digits-size,
        spell-size (edge_name i.edge),
        spell-size (bytes " FM CL"),
      ) (omega arith))
      (cond-size 45 (eqb i.letter letter_n) _ _ (let s = taxiways-said (bytes " SNOWBANK") in omega arith)
      (cond-size 45 (eqb i.letter letter_o) _ _ (let s = runway-said i (bytes " ADJ SNOWBANK") in omega arith)
      (cond-size 45 (eqb i.letter letter_p) _ _ (cond-size 45 (eqb i.count 0) _ _ (rw spell-size (lit≤ tt))
      (let s = taxiways-said (bytes " POOR") in omega arith))
      (cond-size 45 (is_named i) _ _ (rw (
        append-size (words "APRON ") _,
        append-size (verbatim (name_at_front i.name)) _,
        spell-size,
        spell-size,
        verbatim-size,
      ) (omega arith)) (rw spell-size (lit≤ tt))))))))))

  item-size : size (item_pieces i) ≤ 46
  unfolding item_pieces
  item-size = let k = text-size in rw (append-size, spell-size) (omega arith)

  loose-size : size (loose ∷ item_pieces i) ≤ 47
  loose-size = let k = item-size in rw cons-size (omega arith)

pub awareness-size : (is : List Item) → valid_items is ≡ true → size (awareness_pieces is) ≤ 1503
unfolding valid_items sound_items awareness_pieces
awareness-size [] h = rw no_size (lit≤ tt)
awareness-size (i ∷ is) h =
    let n = leb-true (suc (length is)) 32 (and-1 _ _ h) in
    let a = item-size i (and-1 _ _ (and-1 _ _ (and-2 _ _ h))) in
    let b = all-size (λ j. loose ∷ item_pieces j) 47 is
    (all-every (λ j. size (loose ∷ item_pieces j) ≤ 47) valid_item loose-size is (and-2 _ _ (and-1 _ _ (and-2 _ _ h)))) in
    rw append-size (omega arith)
