-- The rows of a notice: which are valid, the latest time, and how they are read.
use Rattle.std.specs.Prelude.{ℕ, zero, suc, List, [], ◌∷◌, ◌++◌, cond, Bool, true, false, not, eqb, leb, length, take, drop}
use Rattle.text.specs.Choice.{◌and◌, all, is_empty}
use Rattle.text.specs.Lines.{Cut, cut, closed, line_text, beyond}
use Rattle.text.specs.Read.{skip, left_by}
use Rattle.text.specs.Numbers.{read_digits}
use Rattle.text.specs.Arrays.{pad}
use Rattle.runway.specs.Time.{later}
use Rattle.row.specs.declared.Row.{Row}
use Rattle.row.specs.Row.{valid_row, blank_row, is_blank_row}
unfoldable pub use Rattle.row.specs.Row.{same_runway}
use Rattle.rowtext.specs.Reading.{find_row}
use Rattle.body.specs.declared.Rows.{Rows}
use Rattle.text.specs.Out.{Out, refuse, taken, next, before, at_end, After, finished, more}
use Rattle.text.specs.Refusals.{outline, ninth_row, runway_twice}

-- "1 to 8 runway rows"
abbrev pub most_rows : ℕ
most_rows = 8

-- the rows that the array holds
abbrev pub rows_of : Rows → List Row
rows_of r = take r.count r.rows

-- a list of rows, zeros behind it
abbrev pub make_rows : List Row → Rows
make_rows rs = record { count = length rs; rows = pad most_rows blank_row rs }

-- the row's runway is one of those seen
unfoldable pub is_among : Row → List Row → Bool
is_among r [] = false
is_among r (s ∷ ss) = cond (same_runway s r) true (is_among r ss)

-- "No runway twice": neither among the rows, nor one of those seen before
unfoldable pub new_runways : List Row → List Row → Bool
new_runways seen [] = true
new_runways seen (r ∷ rs) = not (is_among r seen) and new_runways (seen ++ (r ∷ [])) rs

-- of two times the later
unfoldable pub latest_of : ℕ → ℕ → ℕ
latest_of t s = cond (later s t) s t

-- the latest of a time and those of the rows
unfoldable pub latest_from : ℕ → List Row → ℕ
latest_from t [] = t
latest_from t (r ∷ rs) = latest_from (latest_of t r.time) rs

-- "The heading's time is the latest row time"; of no row it is 0
unfoldable pub latest : List Row → ℕ
latest [] = 0
latest (r ∷ rs) = latest_from r.time rs

-- 1 to 8 valid rows, no runway twice, and blank rows past them
unfoldable pub valid_rows : Rows → Bool
valid_rows r = leb 1 r.count and leb r.count most_rows and eqb (length r.rows) most_rows
    and all valid_row (rows_of r) and new_runways [] (rows_of r) and all is_blank_row (drop r.count r.rows)

-- the rows, and what comes after them
pub record Block : Type 0 where
  pub rows : List Row
  pub after : After

-- the two put together
abbrev pub block : List Row → After → Block
block rs a = record { rows = rs; after = a }

-- a row's runway group: what is left behind its time and a gap
abbrev pub runway_on : List ℕ → List ℕ
runway_on line = skip (left_by (read_digits 8 line))

-- up to n more rows behind those seen
unfoldable pub read_rows : ℕ → List Row → List Cut → Out Block
-- "a line or `)` missing", at "the message's length"
read_rows n seen [] = refuse outline []
-- "an empty line ends the rows (4 while there is none)"
read_rows n seen (cut [] behind ∷ cs) = cond (is_empty seen) (refuse outline behind) (taken (block seen (more cs)))
-- "a ninth line that is not empty where a row may stand": 6 before the row's own rules, at "the line's first byte"
read_rows zero seen (cut (x ∷ l) behind ∷ cs) = refuse ninth_row ((x ∷ l) ++ behind)
-- "any other line, `)` alone too, is read as a row", 5 and 24 to 28; "7 comes after the row's own rules", at its runway group; `)` closes
read_rows (suc n) seen (cut (x ∷ l) behind ∷ cs) = next (before (beyond (x ∷ l) behind) (find_row (line_text (x ∷ l)))) (λ r.
    cond (is_among r seen) (refuse runway_twice (runway_on (line_text (x ∷ l)) ++ beyond (x ∷ l) behind))
    (cond (closed (x ∷ l)) (at_end cs (block (seen ++ (r ∷ [])) finished))
    (read_rows n (seen ++ (r ∷ [])) cs)))
