use native.Mathlib.Omega.{arith}
use Rattle.text.specs.Choice.{◌and◌}
use Rattle.surface.specs.Assess.{is_thin_water}
use Rattle.surface.proofs.is_thin_water.Goals as goal

pub returns-then-s-eq-STANDING_WATER : goal.returns-then-s-eq-STANDING_WATER
unfolding is_thin_water ◌and◌
returns-then-s-eq-STANDING_WATER c = grind arith

pub returns-else-s-eq-STANDING_WATER : goal.returns-else-s-eq-STANDING_WATER
unfolding is_thin_water ◌and◌
returns-else-s-eq-STANDING_WATER c = grind arith
