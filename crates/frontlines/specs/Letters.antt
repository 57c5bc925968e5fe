-- Groups of letters.
use Rattle.std.specs.Prelude.{ℕ, List, Bool, eqb, length}
use Rattle.text.specs.Choice.{◌and◌, all}
use Rattle.text.specs.Read.{Got}
use Rattle.text.specs.Names.{is_letter, read_count}

-- "Letters are A to Z": n of them
abbrev pub read_letters : ℕ → List ℕ → Got (List ℕ)
read_letters n = read_count is_letter n

-- the array holds n letters
unfoldable pub is_letters : ℕ → List ℕ → Bool
is_letters n l = eqb (length l) n and all is_letter l
