use Rattle.std.proofs.Common.{drop, arith}
use Rattle.runway.proofs.Steps.{two-low}
use Rattle.runway.proofs.read_runway.Goals as goal

pub returns-in_err-n : goal.returns-in_err-n
returns-in_err-n c = rw c.from_residual.ensures (record { within = omega arith; says = rw c.in_err-n.ensures.says })

pub overflow_cast-result : goal.overflow_cast-result
overflow_cast-result c = omega (arith, two-low (drop c.args.i c.args.s.now) c.in_ok-n.ensures.says)

pub returns : goal.returns
returns c = record { within = c.side_at-side.ensures.within; says = rw (c.in_ok-n.ensures.says, c.side_at-side.ensures.says) }
