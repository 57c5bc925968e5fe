use Rattle.std.specs.Prelude.{drop}
use Rattle.std.proofs.Common.{arith}
use Rattle.items.specs.ReadItem.{read_length}
use Rattle.awareness.proofs.Details.{unread, number-low}
use Rattle.awareness.proofs.read_length.Goals as goal

pub returns-in_err-at : goal.returns-in_err-at
unfolding read_length
returns-in_err-at c = rw c.from_residual.ensures (unread (rw c.in_err-at.ensures.says))

pub returns-in_err-length : goal.returns-in_err-length
unfolding read_length
returns-in_err-length c = rw c.from_residual-in_err-length.ensures (unread (rw (c.in_ok-at.ensures.says, c.in_err-length.ensures.says)))

pub overflow_cast-result : goal.overflow_cast-result
overflow_cast-result c = omega (arith, number-low (drop c.in_ok-at.at c.args.s.now) c.in_ok-length.ensures.says)

pub returns : goal.returns
unfolding read_length
returns c = record { within = c.in_ok-length.ensures.within; says = rw (c.in_ok-at.ensures.says, c.in_ok-length.ensures.says) }
