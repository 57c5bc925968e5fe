-- A runway: its number in two digits, then nothing, L, C or R.
use Rattle.std.specs.Prelude.{ℕ, List, [], ◌∷◌, cond, Bool, ◌||◌, eqb, leb}
use Rattle.text.specs.Choice.{◌and◌}
use Rattle.text.specs.Piece.{Piece, ◌then◌, spell}
use Rattle.text.specs.Read.{Got, read_seq, read_as, maybe_byte}
use Rattle.text.specs.Names.{name_at}
use Rattle.text.specs.Numbers.{digits, read_digits}

-- 0 none, 1 L, 2 C, 3 R
abbrev pub side_name : ℕ → List ℕ
side_name = name_at ("" ∷ "L" ∷ "C" ∷ "R" ∷ [])

-- the bytes L, C and R
abbrev pub is_side : ℕ → Bool
is_side c = eqb c 76 || (eqb c 67 || eqb c 82)

-- and the side that each stands for
abbrev pub side_of : ℕ → ℕ
side_of c = cond (eqb c 76) 1 (cond (eqb c 67) 2 (cond (eqb c 82) 3 0))

-- "01 to 18, then nothing, L, C or R"; the highest number is 36 in item I
unfoldable pub valid_runway : ℕ → ℕ → ℕ → Bool
valid_runway highest number side = leb 1 number and leb number highest and leb side 3

-- a runway's text
abbrev pub runway_pieces : ℕ → ℕ → List Piece
runway_pieces number side = digits 2 number then spell (side_name side)

-- the side, perhaps none
abbrev pub read_side : List ℕ → Got ℕ
read_side = read_as side_of (maybe_byte is_side)

-- any two digits, and the side: the rows and items say which numbers they take
abbrev pub read_runway : List ℕ → Got (ℕ × ℕ)
read_runway = read_seq (read_digits 2) read_side
