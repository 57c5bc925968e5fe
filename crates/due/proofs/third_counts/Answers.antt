use Rattle.std.proofs.Common.{arith}
use Rattle.due.specs.Third.{third_counts}
use Rattle.due.proofs.third_counts.Goals as goal

pub returns-then-old-new-3 : goal.returns-then-old-new-3
unfolding third_counts
returns-then-old-new-3 c = grind arith

pub returns-else-old-new-3 : goal.returns-else-old-new-3
unfolding third_counts
returns-else-old-new-3 c = grind arith
