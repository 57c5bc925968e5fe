use Rattle.std.proofs.Common.{arith}
use Rattle.frontlines.proofs.List.{no-priority, no-list, none-listed, some-listed, priority-low}
use Rattle.frontlines.proofs.read_addresses.Goals as goal

pub returns-in_err-priority : goal.returns-in_err-priority
returns-in_err-priority c = rw (c.from_residual.ensures, no-priority c.args.line.now c.in_err-priority.ensures.says)

pub returns-in_err-count : goal.returns-in_err-count
returns-in_err-count c =
    rw (c.from_residual-in_err-count.ensures, no-list c.args.line.now c.in_ok-priority.ensures.says c.in_err-count.ensures)

pub returns-then-count-eq0 : goal.returns-then-count-eq0
returns-then-count-eq0 c =
    rw (none-listed c.args.line.now c.in_ok-priority.ensures.says c.in_ok-count.ensures c.if-count-eq0.true)

pub overflow_cast-result : goal.overflow_cast-result
overflow_cast-result c = let k = priority-low c.args.line.now c.in_ok-priority.ensures.says in record { fits = omega arith }

pub returns : goal.returns
returns c = some-listed c.args.line.now c.in_ok-priority.ensures.says c.in_ok-count.ensures c.if-count-eq0.false
