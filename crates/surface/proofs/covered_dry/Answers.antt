use native.Mathlib.Omega.{arith}
use Rattle.text.specs.Choice.{◌and◌}
use Rattle.surface.specs.Assess.{covered_dry}
use Rattle.surface.proofs.covered_dry.Goals as goal

pub returns-then-s-eq-DRY : goal.returns-then-s-eq-DRY
unfolding covered_dry ◌and◌
returns-then-s-eq-DRY c = grind arith

pub returns-else-s-eq-DRY : goal.returns-else-s-eq-DRY
unfolding covered_dry ◌and◌
returns-else-s-eq-DRY c = grind arith
