use native.Mathlib.Omega.{arith}
use Rattle.text.specs.Choice.{◌and◌}
use Rattle.surface.specs.Descriptions.{is_contaminant}
use Rattle.surface.proofs.is_contaminant.Goals as goal

pub returns : goal.returns
unfolding is_contaminant ◌and◌
returns c = grind arith
