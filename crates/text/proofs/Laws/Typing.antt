-- Typings joined and cut; a text's own bytes are a typing of it.
use Rattle.std.specs.Prelude.{ℕ, List, [], ◌∷◌}
use Rattle.text.specs.Piece.{Piece, byte, gap, loose, end, last, nr_groups, canonical, canonical1, none, more, One, byte1, gap1, loose1, end_lf}
use Rattle.text.specs.Piece.{last_lf, nr_left_out, Typed, done, step}

canonical-one : (p : Piece) (r : List ℕ) → One p (canonical1 p r) r
canonical-one (byte b) r = byte1
canonical-one gap r = gap1 none
canonical-one loose r = loose1 (more none)
canonical-one end r = end_lf
canonical-one last r = last_lf
canonical-one nr_groups r = nr_left_out

pub canonical-typed : (ps : List Piece) → Typed ps (canonical ps) []
canonical-typed [] = done
canonical-typed (p ∷ ps) = step (canonical-one p (canonical ps)) (canonical-typed ps)
