-- The texts of the items: the table of document 01, "Awareness items".
use Rattle.std.specs.Prelude.{ℕ, List, [], ◌∷◌, map, cond, Bool, eqb}
use Rattle.text.specs.Choice.{head_is}
use Rattle.text.specs.Piece.{Piece, bytes, words, spell, verbatim, space, lay_all, ◌then◌}
use Rattle.text.specs.Names.{is_name, name_at}
use Rattle.text.specs.Numbers.{digits, number}
use Rattle.text.specs.Arrays.{slots}
use Rattle.runway.specs.Runway.{runway_pieces}
use Rattle.items.specs.declared.Item.{Item}
use Rattle.items.specs.Item.{letter_i, letter_j, letter_k, letter_l, letter_m, letter_n, letter_o, letter_p, name_at_front, taxiway_size}

-- the taxiways that an item names
abbrev pub taxiways_of : Item → List (List ℕ)
taxiways_of i = map name_at_front (slots taxiway_size i.count i.taxiways)

-- `RWY rr` and what is said of it
abbrev pub of_runway : Item → List ℕ → List Piece
of_runway i said = words "RWY " then runway_pieces i.number i.side then spell said

-- `TWY`, the taxiways, and what is said of them
abbrev pub of_taxiways : Item → List ℕ → List Piece
of_taxiways i said = words "TWY" then lay_all (λ w. space then verbatim w) (taxiways_of i) then spell said

-- 1 L, 2 R, 3 LR
abbrev pub edge_name : ℕ → List ℕ
edge_name = name_at ("" ∷ "L" ∷ "R" ∷ "LR" ∷ [])

-- I: what is said of a runway, and the length
abbrev pub length_text : Item → List Piece
length_text i = of_runway i (bytes " REDUCED TO ") then number 3 i.amount

-- M: "`RWY rr SNOWBANK` and L, R or LR with 01 to 99 joined, then `FM CL`"
abbrev pub bank_text : Item → List Piece
bank_text i = of_runway i (bytes " SNOWBANK ") then spell (edge_name i.edge) then digits 2 i.amount then words " FM CL"

-- no taxiway of P is ALL
abbrev pub poor_taxiways : Item → List Piece
poor_taxiways i = cond (eqb i.count 0) (words "ALL TWY POOR") (of_taxiways i (bytes " POOR"))

-- an item R that names an apron
abbrev pub is_named : Item → Bool
is_named i = head_is is_name i.name

-- no name of R is ALL
abbrev pub poor_apron : Item → List Piece
poor_apron i = cond (is_named i) (words "APRON " then verbatim (name_at_front i.name) then words " POOR") (words "ALL APRON POOR")

-- the text of each item, by its letter, without the full stop
unfoldable pub item_text : Item → List Piece
item_text i =
    cond (eqb i.letter letter_i) (length_text i)
    (cond (eqb i.letter letter_j) (words "DRIFTING SNOW")
    (cond (eqb i.letter letter_k) (of_runway i (bytes " LOOSE SAND"))
    (cond (eqb i.letter letter_l) (of_runway i (bytes " CHEMICALLY TREATED"))
    (cond (eqb i.letter letter_m) (bank_text i)
    (cond (eqb i.letter letter_n) (of_taxiways i (bytes " SNOWBANK"))
    (cond (eqb i.letter letter_o) (of_runway i (bytes " ADJ SNOWBANK"))
    (cond (eqb i.letter letter_p) (poor_taxiways i)
    (poor_apron i))))))))

-- "each ended by a full stop"
unfoldable pub item_pieces : Item → List Piece
item_pieces i = item_text i then words "."
