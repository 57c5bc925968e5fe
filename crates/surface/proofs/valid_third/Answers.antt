use native.Mathlib.Omega.{arith}
use Rattle.text.specs.Choice.{◌and◌}
use Rattle.surface.specs.Third.{valid_third}
use Rattle.surface.proofs.valid_third.Goals as goal

pub returns-then-valid_coverage : goal.returns-then-valid_coverage
unfolding valid_third ◌and◌
returns-then-valid_coverage c = grind arith

pub returns-else-valid_coverage : goal.returns-else-valid_coverage
unfolding valid_third ◌and◌
returns-else-valid_coverage c = grind arith
