-- The awareness line: up to 32 items in letter order, with what may repeat (document 01, "Awareness items").
use Rattle.std.specs.Prelude.{ℕ, List, [], ◌∷◌, cond, Bool, true, false, not, eqb, leb, ltb, length}
use Rattle.text.specs.Choice.{◌and◌, all, same_bytes}
use Rattle.text.specs.Piece.{Piece, loose, lay_all, ◌then◌}
use Rattle.text.specs.Read.{Got, got, whole, read_seq, read_as, read_if, read_loose, read_many}
use Rattle.text.specs.Arrays.{is_zero}
use Rattle.items.specs.declared.Item.{Item}
use Rattle.items.specs.Item.{letter_r, on_runway, valid_item, taxiway_bytes, apron_size}
use Rattle.items.specs.ItemText.{is_named, item_pieces}
use Rattle.items.specs.ReadItem.{read_item, bare_item}

-- items of one runway: its number and its side
unfoldable pub same_runway : Item → Item → Bool
same_runway a b = eqb a.number b.number and eqb a.side b.side

-- "R once for a name; its ALL stands once and excludes names"
unfoldable pub other_apron : Item → Item → Bool
other_apron a b = is_named a and is_named b and not (same_bytes a.name b.name)

-- two items of one letter: "I, K, L, M and O once for a runway", "J, N and P stand at most once"
unfoldable pub may_repeat : Item → Item → Bool
may_repeat a b = cond (on_runway a.letter) (not (same_runway a b)) (cond (eqb a.letter letter_r) (other_apron a b) false)

-- b may stand somewhere behind a: "in letter order"
unfoldable pub may_follow : Item → Item → Bool
may_follow a b = cond (eqb a.letter b.letter) (may_repeat a b) (ltb a.letter b.letter)

-- a may stand before i
unfoldable pub may_precede : Item → Item → Bool
may_precede i a = may_follow a i

-- i may stand behind all of these
abbrev pub stands_behind : List Item → Item → Bool
stands_behind is i = all (may_precede i) is

-- each item may stand behind all before it
unfoldable pub in_order : List Item → Bool
in_order [] = true
in_order (a ∷ as') = all (may_follow a) as' and in_order as'

-- "at most 32"
abbrev pub most_items : ℕ
most_items = 32

-- each is valid, and they stand in order
unfoldable pub sound_items : List Item → Bool
sound_items is = all valid_item is and in_order is

-- "At most 32"
unfoldable pub valid_items : List Item → Bool
valid_items is = leb (length is) most_items and sound_items is

-- the writer puts one space between two items
unfoldable pub awareness_pieces : List Item → List Piece
awareness_pieces [] = []
awareness_pieces (i ∷ is) = item_pieces i then lay_all (λ j. loose ∷ item_pieces j) is

-- a line without items is empty; any other has one, and up to 31 more
unfoldable pub read_awareness : List ℕ → Got (List Item)
read_awareness [] = got [] []
read_awareness (x ∷ m) = read_if in_order (read_as (λ p. p.0 ∷ p.1) (read_seq read_item (read_many (read_loose read_item) 31))) (x ∷ m)

-- a line that is such items
unfoldable pub whole_awareness : List ℕ → Got (List Item)
whole_awareness l = whole (read_awareness l)

-- "blank means all zero"
abbrev pub blank_item : Item
blank_item = bare_item 0

-- an array of n zeros
unfoldable pub is_blank : ℕ → List ℕ → Bool
is_blank n f = eqb (length f) n and all is_zero f

-- no letter, and no number in any field
unfoldable pub no_numbers : Item → Bool
no_numbers i = eqb i.letter 0 and eqb i.number 0 and eqb i.side 0 and eqb i.amount 0 and eqb i.edge 0 and eqb i.count 0

-- all zero
unfoldable pub is_blank_item : Item → Bool
is_blank_item i = no_numbers i and is_blank taxiway_bytes i.taxiways and is_blank apron_size i.name
