-- What the code's answers say of the readers.
use Rattle.std.specs.Prelude.{ℕ, suc, ◌≤◌, ◌≡◌, List, [], Result, MatchResult, cond, drop}
use Rattle.text.specs.declared.refusal.Fault.{Fault}
use Rattle.text.specs.Lines.{cuts, lines_size, closed, line_text}
use Rattle.text.specs.Out.{taken, finished, more}
use Rattle.text.specs.Code.Faults.{Refused}
use Rattle.rowtext.specs.Reading.{find_row}
use Rattle.body.specs.declared.Rows.{Rows}
use Rattle.body.specs.declared.RowLine.{RowLine}
use Rattle.body.specs.declared.RowsFound.{RowsFound}
use Rattle.body.specs.Rows.{most_rows, rows_of, make_rows, block, read_rows}

-- a line in a row's place is this row, and `)` closes it or does not
pub record LineTaken (l : List ℕ) (r : RowLine) : Type 0 where
  pub says : find_row (line_text l) ≡ taken r.row
  pub closes : r.closed ≡ closed l

-- the answer r is the reading of a line in a row's place; the place of a fault is one of its text
abbrev pub LineHeld : List ℕ → Result RowLine Fault → Type 0
LineHeld l r = MatchResult r (LineTaken l) (Refused (line_text l) (find_row (line_text l)))

-- up to eight rows, zeros behind them
pub record Kept (r : Rows) : Type 0 where
  pub few : r.count ≤ most_rows
  pub zeros : r ≡ make_rows (rows_of r)

-- these are the rows at the front of m; behind the empty line that ends n rows there are n + 1 lines
pub record RowsTaken (m : List ℕ) (r : RowsFound) : Type 0 where
  pub kept : Kept r.rows
  pub says : read_rows most_rows [] (cuts m) ≡ taken (block (rows_of r.rows) (cond r.closed finished (more (cuts (drop r.next m)))))
  pub behind : r.next ≡ cond r.closed 0 (lines_size (suc r.rows.count) m)

-- the answer r is the reading of the rows at the front of m
abbrev pub RowsHeld : List ℕ → Result RowsFound Fault → Type 0
RowsHeld m r = MatchResult r (RowsTaken m) (Refused m (read_rows most_rows [] (cuts m)))
