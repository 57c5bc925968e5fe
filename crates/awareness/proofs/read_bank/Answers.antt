use Rattle.std.specs.Prelude.{drop}
use Rattle.std.proofs.Common.{arith}
use Rattle.items.specs.ReadItem.{read_bank}
use Rattle.awareness.proofs.Details.{unread, edge-low, two-low}
use Rattle.awareness.proofs.read_bank.Goals as goal

pub returns-in_err-at : goal.returns-in_err-at
unfolding read_bank
returns-in_err-at c = rw c.from_residual.ensures (unread (rw c.in_err-at.ensures.says))

pub returns-in_err-edge : goal.returns-in_err-edge
unfolding read_bank
returns-in_err-edge c = rw c.from_residual-in_err-edge.ensures (unread (rw (c.in_ok-at.ensures.says, c.in_err-edge.ensures.says)))

pub returns-in_err-distance : goal.returns-in_err-distance
unfolding read_bank
returns-in_err-distance c = rw c.from_residual-in_err-distance.ensures (unread (rw (c.in_ok-at.ensures.says, c.in_ok-edge.ensures.says, c.in_err-distance.ensures.says)))

pub returns-in_err-next : goal.returns-in_err-next
unfolding read_bank
returns-in_err-next c = rw c.from_residual-in_err-next.ensures (unread (rw (c.in_ok-at.ensures.says, c.in_ok-edge.ensures.says, c.in_ok-distance.ensures.says, c.in_err-next.ensures.says)))

pub overflow_cast-result : goal.overflow_cast-result
overflow_cast-result c = omega (arith, edge-low (drop c.in_ok-at.at c.args.s.now) c.in_ok-edge.ensures.says)

pub overflow_cast-result-2 : goal.overflow_cast-result-2
overflow_cast-result-2 c = omega (arith, two-low (drop c.in_ok-edge.edge.next c.args.s.now) c.in_ok-distance.ensures.says)

pub returns : goal.returns
unfolding read_bank
returns c = record { within = c.in_ok-next.ensures.within; says = rw (c.in_ok-at.ensures.says, c.in_ok-edge.ensures.says, c.in_ok-distance.ensures.says, c.in_ok-next.ensures.says) }
