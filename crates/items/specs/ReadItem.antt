-- Reading an awareness item: its opening words, and then what they call for.
use Rattle.std.specs.Prelude.{ℕ, List, [], ◌∷◌, map, cond, Bool, not, eqb, leb, length, replicate}
use Rattle.text.specs.Choice.{is_empty, ◌and◌}
use Rattle.text.specs.Piece.{bytes}
use Rattle.text.specs.Read.{Got, read_nothing, read_seq, read_bind, read_as, read_if, read_gap, read_before, read_many}
use Rattle.text.specs.Names.{is_name, name_at, read_name, read_run}
use Rattle.text.specs.Numbers.{read_digits, read_number}
use Rattle.text.specs.Arrays.{pad, flat}
use Rattle.runway.specs.Runway.{read_runway}
use Rattle.items.specs.declared.Item.{Item}
use Rattle.items.specs.Item.{valid_item, is_taxiway, most_taxiways, taxiway_size, taxiway_bytes, apron_size, letter_i, letter_j, letter_k, letter_l, letter_m}
use Rattle.items.specs.Item.{letter_n, letter_o, letter_p, letter_r}
use Rattle.items.specs.ItemText.{edge_name}

-- the words that an item opens with, by number
abbrev pub opens_runway : ℕ
opens_runway = 0

abbrev pub opens_drifting : ℕ
opens_drifting = 1

abbrev pub opens_taxiways : ℕ
opens_taxiways = 2

abbrev pub opens_all_taxiways : ℕ
opens_all_taxiways = 3

abbrev pub opens_apron : ℕ
opens_apron = 4

abbrev pub opens_all_aprons : ℕ
opens_all_aprons = 5

-- all of them
abbrev pub openings : List ℕ
openings = opens_runway ∷ opens_drifting ∷ opens_taxiways ∷ opens_all_taxiways ∷ opens_apron ∷ opens_all_aprons ∷ []

-- the words of each, at its number
abbrev pub opening_name : ℕ → List ℕ
opening_name = name_at ("RWY" ∷ "DRIFTING SNOW" ∷ "TWY" ∷ "ALL TWY POOR" ∷ "APRON" ∷ "ALL APRON POOR" ∷ [])

-- what is said of a runway, by the item's letter
abbrev pub sayings : List ℕ
sayings = letter_i ∷ letter_k ∷ letter_l ∷ letter_m ∷ letter_o ∷ []

-- the words of each
abbrev pub saying : ℕ → List ℕ
saying l =
    cond (eqb l letter_i) (bytes " REDUCED TO")
    (cond (eqb l letter_k) (bytes " LOOSE SAND")
    (cond (eqb l letter_l) (bytes " CHEMICALLY TREATED")
    (cond (eqb l letter_m) (bytes " SNOWBANK")
    (bytes " ADJ SNOWBANK"))))

-- and of taxiways
abbrev pub taxi_sayings : List ℕ
taxi_sayings = letter_n ∷ letter_p ∷ []

-- the words of each
abbrev pub taxi_saying : ℕ → List ℕ
taxi_saying l = cond (eqb l letter_n) (bytes " SNOWBANK") (bytes " POOR")

-- the edges as they are tried: LR before L, which it begins with
abbrev pub edges : List ℕ
edges = 3 ∷ 1 ∷ 2 ∷ []

-- an edge and an amount: I has a length and no edge
unfoldable pub read_length : List ℕ → Got (ℕ × ℕ)
read_length = read_as (λ n. (0, n)) (read_gap (read_number 3))

-- M has an edge, and the distance joined to it
unfoldable pub read_bank : List ℕ → Got (ℕ × ℕ)
read_bank = read_gap (read_seq (read_name edge_name edges) (read_before (read_digits 2) (bytes " FM CL")))

-- K, L and O have neither
unfoldable pub read_neither : List ℕ → Got (ℕ × ℕ)
read_neither = read_as (λ _. (0, 0)) read_nothing

-- what the letter calls for
unfoldable pub read_detail : ℕ → List ℕ → Got (ℕ × ℕ)
read_detail letter = cond (eqb letter letter_i) read_length (cond (eqb letter letter_m) read_bank read_neither)

-- an item of a runway, its letter, edge and amount; every other field is zero
abbrev pub runway_item : (ℕ × ℕ) × (ℕ × (ℕ × ℕ)) → Item
runway_item p =
    let ((number, side), (letter, (edge, amount))) = p in
    record {
      letter = letter;
      number = number;
      side = side;
      amount = amount;
      edge = edge;
      count = 0;
      taxiways = replicate taxiway_bytes 0;
      name =
          replicate apron_size 0;
    }

-- an item of fixed words
abbrev pub bare_item : ℕ → Item
bare_item l = runway_item ((0, 0), (l, (0, 0)))

-- taxiways, each in three bytes
abbrev pub taxi_item : List (List ℕ) × ℕ → Item
taxi_item p =
    let (names, letter) = p in
    record {
      letter = letter;
      number = 0;
      side = 0;
      amount = 0;
      edge = 0;
      count = length names;
      taxiways =
          pad taxiway_bytes 0 (flat (map (pad taxiway_size 0) names));
      name = replicate apron_size 0;
    }

-- the item of one apron
abbrev pub apron_item : List ℕ → Item
apron_item name' = record {
  letter = letter_r;
  number = 0;
  side = 0;
  amount = 0;
  edge = 0;
  count = 0;
  taxiways = replicate taxiway_bytes 0;
  name =
      pad apron_size 0 name';
}

-- one taxiway
unfoldable pub read_taxiway : List ℕ → Got (List ℕ)
read_taxiway = read_if is_taxiway (read_run is_name)

-- up to n of them, each behind a gap
abbrev pub read_some_taxiways : ℕ → List ℕ → Got (List (List ℕ))
read_some_taxiways = read_many (read_gap read_taxiway)

-- "1 to 8 taxiways"
unfoldable pub read_taxiways : List ℕ → Got (List (List ℕ))
read_taxiways = read_if (λ ws. not (is_empty ws)) (read_some_taxiways most_taxiways)

-- 1 to 16 bytes
abbrev pub is_apron : List ℕ → Bool
is_apron w = leb 1 (length w) and leb (length w) apron_size

-- an apron's name
unfoldable pub read_apron : List ℕ → Got (List ℕ)
read_apron = read_if is_apron (read_run is_name)

-- what comes behind the opening words: behind RWY, its number and side, what is said of it, and the detail
unfoldable pub read_runway_form : List ℕ → Got Item
read_runway_form = read_as runway_item (read_gap (read_seq read_runway (read_bind (read_name saying sayings) read_detail)))

-- behind TWY: taxiways, and what is said of them
unfoldable pub read_taxi_form : List ℕ → Got Item
read_taxi_form = read_as taxi_item (read_seq read_taxiways (read_name taxi_saying taxi_sayings))

-- behind APRON: a name, POOR
unfoldable pub read_apron_form : List ℕ → Got Item
read_apron_form = read_as apron_item (read_gap (read_before read_apron (bytes " POOR")))

-- behind words that are the whole text: nothing
unfoldable pub read_bare_form : ℕ → List ℕ → Got Item
read_bare_form l = read_as (λ _. bare_item l) read_nothing

-- what stands behind each opening
unfoldable pub read_form : ℕ → List ℕ → Got Item
read_form k =
    cond (eqb k opens_runway) read_runway_form
    (cond (eqb k opens_drifting) (read_bare_form letter_j)
    (cond (eqb k opens_taxiways) read_taxi_form
    (cond (eqb k opens_all_taxiways) (read_bare_form letter_p)
    (cond (eqb k opens_apron) read_apron_form
    (read_bare_form letter_r)))))

-- an item without its full stop
unfoldable pub read_body : List ℕ → Got Item
read_body = read_as (λ p. p.1) (read_bind (read_name opening_name openings) read_form)

-- an item with its full stop, if it is valid
unfoldable pub read_item : List ℕ → Got Item
read_item = read_if valid_item (read_before read_body (bytes "."))
