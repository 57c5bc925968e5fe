-- Writing a runway row into the rest of a buffer.
use Rattle.std.specs.Prelude.{ℕ, ◌≡◌, List, [], ◌++◌, leb, length, drop, cond}
use Rattle.text.specs.Piece.{canonical}
use Rattle.row.specs.Row.{valid_row}
use Rattle.rowtext.specs.Text.{row_pieces}
use Rattle.row.specs.declared.Row.{Row}

-- the text of a valid row; any other has none
unfoldable pub row_text : Row → List ℕ
row_text r = cond (valid_row r) (canonical (row_pieces r)) []

-- a text that fits stands at the front, "later bytes stay", and r is its length; one that does not changes nothing
pub record WroteRow (t before after : List ℕ) (r : ℕ) : Type 0 where
  pub filled : r ≡ cond (leb (length t) (length before)) (length t) 0
  pub holds : after ≡ cond (leb (length t) (length before)) (t ++ drop (length t) before) before
