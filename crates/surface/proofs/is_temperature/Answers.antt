use native.Mathlib.Omega.{arith}
use Rattle.text.specs.Choice.{◌and◌}
use Rattle.surface.specs.Assess.{is_temperature}
use Rattle.surface.proofs.is_temperature.Goals as goal

pub returns : goal.returns
unfolding is_temperature ◌and◌
returns c = grind arith
