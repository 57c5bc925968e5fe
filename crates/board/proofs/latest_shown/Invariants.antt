use Rattle.board.specs.Laws.Latest.{Upto}
use Rattle.board.proofs.latest_shown.Given as goal

abbrev pub invariant-loop-r : goal.invariant-loop-r
invariant-loop-r l = Upto l.fn.rows l.r-index l.latest
