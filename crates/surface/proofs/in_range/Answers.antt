use native.Mathlib.Omega.{arith}
use Rattle.text.specs.Choice.{◌and◌}
use Rattle.surface.specs.Assess.{in_range}
use Rattle.surface.proofs.in_range.Goals as goal

pub returns-then-o-le-GREATEST_DEPTH : goal.returns-then-o-le-GREATEST_DEPTH
unfolding in_range ◌and◌
returns-then-o-le-GREATEST_DEPTH c = grind arith

pub returns-else-o-le-GREATEST_DEPTH : goal.returns-else-o-le-GREATEST_DEPTH
unfolding in_range ◌and◌
returns-else-o-le-GREATEST_DEPTH c = grind arith
