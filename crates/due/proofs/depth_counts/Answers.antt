use Rattle.std.proofs.Common.{arith}
use Rattle.due.specs.Third.{depth_counts}
use Rattle.due.proofs.depth_counts.Goals as goal

pub returns-then-old-eq0 : goal.returns-then-old-eq0
unfolding depth_counts
returns-then-old-eq0 c = grind arith

pub returns : goal.returns
unfolding depth_counts
returns c = grind arith
