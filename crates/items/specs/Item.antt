-- An awareness item: what each of its fields may hold, by the item's letter (document 01, "Awareness items").
use Rattle.std.specs.Prelude.{ℕ, zero, suc, List, [], ◌∷◌, cond, Bool, true, not, eqb, leb, length, take, drop}
use Rattle.text.specs.Choice.{◌and◌, all, member, head_is, same_bytes}
use Rattle.text.specs.Piece.{bytes}
use Rattle.text.specs.Names.{is_letter, is_name, run, past}
use Rattle.text.specs.Arrays.{is_zero, slots}
use Rattle.runway.specs.Runway.{valid_runway}
use Rattle.items.specs.declared.Item.{Item}

-- the items by the bytes of their letters; I is `RWY rr REDUCED TO n`
abbrev pub letter_i : ℕ
letter_i = 73

-- `DRIFTING SNOW`
abbrev pub letter_j : ℕ
letter_j = 74

-- `RWY rr LOOSE SAND`
abbrev pub letter_k : ℕ
letter_k = 75

-- `RWY rr CHEMICALLY TREATED`
abbrev pub letter_l : ℕ
letter_l = 76

-- `RWY rr SNOWBANK` and an edge with a distance
abbrev pub letter_m : ℕ
letter_m = 77

-- `TWY` taxiways `SNOWBANK`
abbrev pub letter_n : ℕ
letter_n = 78

-- `RWY rr ADJ SNOWBANK`
abbrev pub letter_o : ℕ
letter_o = 79

-- `TWY` taxiways `POOR`, or `ALL TWY POOR`
abbrev pub letter_p : ℕ
letter_p = 80

-- `APRON` name `POOR`, or `ALL APRON POOR`
abbrev pub letter_r : ℕ
letter_r = 82

-- the nine items
abbrev pub letters : List ℕ
letters = bytes "IJKLMNOPR"

-- the items that name a runway
unfoldable pub on_runway : ℕ → Bool
on_runway l = member (bytes "IKLMO") l

-- the items that may name taxiways
unfoldable pub on_taxiways : ℕ → Bool
on_taxiways l = member (bytes "NP") l

-- the name at the front of an array
abbrev pub name_at_front : List ℕ → List ℕ
name_at_front f = run is_name f

-- what stands behind the name in a field
abbrev pub behind_name : List ℕ → List ℕ
behind_name f = past is_name f

-- "in item I its number may be 01 to 36"
abbrev pub highest_for : ℕ → ℕ
highest_for l = cond (eqb l letter_i) 36 18

-- an item names a runway if its letter does
unfoldable pub runway_fits : Item → Bool
runway_fits i = cond (on_runway i.letter) (valid_runway (highest_for i.letter) i.number i.side) (eqb i.number 0 and eqb i.side 0)

-- from the one bound to the other
abbrev pub is_between : ℕ → ℕ → ℕ → Bool
is_between low high x = leb low x and leb x high

-- I: "n 100 to 9999"; M: "01 to 99"
unfoldable pub amount_fits : Item → Bool
amount_fits i =
    cond (eqb i.letter letter_i) (is_between 100 9999 i.amount)
    (cond (eqb i.letter letter_m) (is_between 1 99 i.amount)
    (eqb i.amount 0))

-- M: "L, R or LR", 1 to 3
unfoldable pub edge_fits : Item → Bool
edge_fits i = cond (eqb i.letter letter_m) (is_between 1 3 i.edge) (eqb i.edge 0)

-- N names taxiways, P names some or none (ALL), no other does
unfoldable pub count_fits : Item → Bool
count_fits i = cond (eqb i.letter letter_n) (leb 1 i.count) (cond (eqb i.letter letter_p) true (eqb i.count 0))

-- "1 to 8 taxiways", three bytes for each
abbrev pub most_taxiways : ℕ
most_taxiways = 8

-- "1 to 3 capitals and digits"
abbrev pub taxiway_size : ℕ
taxiway_size = 3

-- eight slots of three bytes
abbrev pub taxiway_bytes : ℕ
taxiway_bytes = 24

-- "a taxiway is 1 to 3 capitals and digits, first a letter"
unfoldable pub is_taxiway : List ℕ → Bool
is_taxiway w = head_is is_letter w and all is_name w and leb (length w) taxiway_size

-- a taxiway in its three bytes, zeros behind it
unfoldable pub valid_slot : List ℕ → Bool
valid_slot s = eqb (length s) taxiway_size and head_is is_letter s and all is_zero (behind_name s)

-- w is none of these
unfoldable pub is_new : List ℕ → List (List ℕ) → Bool
is_new w [] = true
is_new w (v ∷ vs) = not (same_bytes w v) and is_new w vs

-- n taxiways at the front of an array, "no taxiway twice within an item", and zeros behind them
unfoldable pub slots_fit : ℕ → List ℕ → Bool
slots_fit zero f = all is_zero f
slots_fit (suc n) f = valid_slot (take taxiway_size f) and is_new (take taxiway_size f) (slots taxiway_size n (drop taxiway_size f))
    and slots_fit n (drop taxiway_size f)

-- up to eight taxiways in their slots
unfoldable pub taxiways_fit : ℕ → List ℕ → Bool
taxiways_fit n f = leb n most_taxiways and eqb (length f) taxiway_bytes and slots_fit n f

-- "an apron name is 1 to 16 capitals and digits"
abbrev pub apron_size : ℕ
apron_size = 16

-- R names an apron or none (ALL), no other does; zeros behind the name
unfoldable pub name_fits : ℕ → List ℕ → Bool
name_fits l f = eqb (length f) apron_size and all is_zero (cond (eqb l letter_r) (behind_name f) f)

-- the letter is one of the nine, and its numbers are such as it takes
unfoldable pub numbers_fit : Item → Bool
numbers_fit i = member letters i.letter and runway_fits i and amount_fits i and edge_fits i and count_fits i

-- its numbers, its taxiways and its name are such as its letter takes
unfoldable pub valid_item : Item → Bool
valid_item i = numbers_fit i and taxiways_fit i.count i.taxiways and name_fits i.letter i.name
