-- The invariant: the rows that are left to show, put behind those in the array, give the rows shown of all places.
use Rattle.std.proofs.Common.{◌≡◌, ◌≤◌, length, drop}
use Rattle.body.specs.Rows.{make_rows}
use Rattle.board.specs.Board.{reported}
use Rattle.boardnotice.proofs.Writing.{rows_onto}
use Rattle.boardnotice.proofs.shown_rows.Given as goal

abbrev pub invariant-loop-r : goal.invariant-loop-r
invariant-loop-r l =
    (l.count ≤ l.r-index) × (length l.shown ≡ 8) × (rows_onto l.count l.shown (reported (drop l.r-index l.rows)) ≡ make_rows (reported l.rows))
