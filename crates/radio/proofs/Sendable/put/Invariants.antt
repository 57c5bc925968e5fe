use Rattle.radio.proofs.Writing.{PutRows}
use Rattle.radio.proofs.Sendable.put.Given as goal

abbrev pub invariant-loop-row : goal.invariant-loop-row
invariant-loop-row l = PutRows l.row-items l.row-index l.fn.out l.out l.behind
