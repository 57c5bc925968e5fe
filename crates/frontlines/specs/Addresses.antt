-- Line 1: "`GG` or `DD`, then 1 to 8 addresses of eight letters".
use Rattle.std.specs.Prelude.{ℕ, ◌*◌, List, [], ◌∷◌, Bool, not, eqb, leb, length}
use Rattle.text.specs.Choice.{◌and◌, all, is_empty, member}
use Rattle.text.specs.Piece.{Piece, ◌then◌, space, spell, verbatim, lay_all}
use Rattle.text.specs.Read.{Got, read_as, read_if, read_seq, read_gap, read_many}
use Rattle.text.specs.Names.{name_at, read_name}
use Rattle.text.specs.Arrays.{pad, is_zero, slots, past_slots, flat}
use Rattle.frontlines.specs.Letters.{read_letters, is_letters}
use Rattle.frontlines.specs.declared.Addresses.{Addresses}

-- "`GG` or `DD`", by number: 1 and 2
abbrev pub priority_name : ℕ → List ℕ
priority_name = name_at ("" ∷ "GG" ∷ "DD" ∷ [])

-- the two numbers
abbrev pub priorities : List ℕ
priorities = 1 ∷ 2 ∷ []

-- "1 to 8 addresses"
abbrev pub most_addresses : ℕ
most_addresses = 8

-- "of eight letters"
abbrev pub address_size : ℕ
address_size = 8

-- the array has room for all of them
abbrev pub address_room : ℕ
address_room = most_addresses * address_size

-- the addresses that the array holds
abbrev pub addresses_of : Addresses → List (List ℕ)
addresses_of a = slots address_size a.count a.letters

-- a priority and a list of addresses, zeros behind them
abbrev pub make_addresses : ℕ → List (List ℕ) → Addresses
make_addresses p as' = record { priority = p; count = length as'; letters = pad address_room 0 (flat as') }

-- an address and the gap before it
abbrev pub address_pieces : List ℕ → List Piece
address_pieces l = space then verbatim l

-- the line's text
unfoldable pub addresses_pieces : Addresses → List Piece
addresses_pieces a = spell (priority_name a.priority) then lay_all address_pieces (addresses_of a)

-- "`GG` or `DD`"
abbrev pub read_priority : List ℕ → Got ℕ
read_priority = read_name priority_name priorities

-- a gap, and an address
abbrev pub read_address : List ℕ → Got (List ℕ)
read_address = read_gap (read_letters address_size)

-- what the line says
unfoldable pub read_addresses : List ℕ → Got Addresses
read_addresses = read_as (λ p. make_addresses p.0 p.1) (read_if (λ p. not (is_empty p.1)) (read_seq read_priority (read_many read_address most_addresses)))

-- GG or DD; 1 to 8 addresses, each of eight letters; "A record holds zeros past each count"
unfoldable pub valid_addresses : Addresses → Bool
valid_addresses a = member priorities a.priority and leb 1 a.count and leb a.count most_addresses and eqb (length a.letters) address_room
    and all (is_letters address_size) (addresses_of a) and all is_zero (past_slots address_size a.count a.letters)
