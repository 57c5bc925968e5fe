use Rattle.std.proofs.Common.{◌≡◌, drop}
use Rattle.board.specs.Board.{blank_runway, rising}
use Rattle.board.proofs.all_rise.Given as goal

abbrev pub invariant-loop-w : goal.invariant-loop-w
invariant-loop-w l = rising blank_runway l.runways ≡ rising l.last (drop l.w-index l.runways)
