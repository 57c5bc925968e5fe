use native.Mathlib.Omega.{arith}
use Rattle.text.specs.Choice.{◌and◌}
use Rattle.surface.specs.Third.{valid_coverage}
use Rattle.surface.proofs.valid_coverage.Goals as goal

pub returns-then-t-eq-NR : goal.returns-then-t-eq-NR
unfolding valid_coverage ◌and◌
returns-then-t-eq-NR c = grind arith

pub returns-then-is_coverage : goal.returns-then-is_coverage
unfolding valid_coverage ◌and◌
returns-then-is_coverage c = grind arith

pub returns-else-is_coverage : goal.returns-else-is_coverage
unfolding valid_coverage ◌and◌
returns-else-is_coverage c = grind arith
