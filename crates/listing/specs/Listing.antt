-- What is printed of a message: document 01, "The lister's output".
use Rattle.std.specs.Prelude.{ℕ, ◌+◌, List, [], ◌∷◌, ◌++◌, eqb, cond}
use Rattle.text.specs.Piece.{bytes, canonical}
use Rattle.text.specs.Numbers.{number}
use Rattle.row.specs.declared.Row.{Row}
use Rattle.row.specs.Agreement.{disagreements}
use Rattle.body.specs.Rows.{rows_of}
use Rattle.record.specs.declared.Record.{Record}
use Rattle.record.specs.declared.Reading.{Reading}
use Rattle.record.specs.Notice.{notice_text}
use Rattle.notice.specs.Reading.{reading}

-- "disagreeing thirds", those of all rows together
unfoldable pub disagreeing_thirds : List Row → ℕ
disagreeing_thirds [] = 0
disagreeing_thirds (r ∷ rs) = disagreements r.thirds + disagreeing_thirds rs

-- a space, and a number in one digit or two
unfoldable pub counted : ℕ → List ℕ
counted n = 32 ∷ canonical (number 1 n)

-- "`ACCEPTED`, rows, items (plain language not counted), disagreeing thirds"
unfoldable pub accepted_line : Record → List ℕ
accepted_line r =
    bytes "ACCEPTED"
    ++ (counted r.rows.count
    ++ (counted r.items.count
    ++ (counted (disagreeing_thirds (rows_of r.rows))
    ++ (10 ∷ []))))

-- "`REFUSED` and the number"
unfoldable pub refused_line : ℕ → List ℕ
refused_line n = bytes "REFUSED" ++ (counted n ++ (10 ∷ []))

-- the first line, and for a record "then the canonical text"
unfoldable pub listed : Reading → List ℕ
listed a = cond (eqb a.refusal 0) (accepted_line a.«record» ++ notice_text a.«record») (refused_line a.refusal)

-- what the lister prints of a message
unfoldable pub listing : List ℕ → List ℕ
listing m = listed (reading m)
