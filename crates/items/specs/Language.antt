-- Plain language (document 01, "Plain language (T)").
use Rattle.std.specs.Prelude.{ℕ, List, [], ◌∷◌, Bool, false, not, eqb, leb, length}
use Rattle.text.specs.Choice.{◌and◌, all, head_is}
use Rattle.text.specs.Read.{Got, got, guard}
use Rattle.text.specs.Names.{is_plain_byte}

-- "no leading space"
abbrev pub space_byte : ℕ
space_byte = 32

-- "last a full stop"
abbrev pub full_stop : ℕ
full_stop = 46

-- there is a last byte, and it is c
unfoldable pub last_is : ℕ → List ℕ → Bool
last_is c [] = false
last_is c (x ∷ []) = eqb x c
last_is c (x ∷ y ∷ l) = last_is c (y ∷ l)

-- "the record holds 400 bytes of plain language"
abbrev pub most_language : ℕ
most_language = 400

-- "2 to 400 bytes of capitals, digits, space and `. , / - + :`, no leading space, last a full stop"
unfoldable pub valid_language : List ℕ → Bool
valid_language l = leb 2 (length l) and leb (length l) most_language and all is_plain_byte l and not (head_is (eqb space_byte) l) and last_is full_stop l

-- a line that is plain language, byte by byte as it stands
unfoldable pub whole_language : List ℕ → Got (List ℕ)
whole_language l = guard (valid_language l) (got l [])
