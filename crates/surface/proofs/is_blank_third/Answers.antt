use native.Mathlib.Omega.{arith}
use Rattle.text.specs.Choice.{◌and◌}
use Rattle.surface.specs.Third.{is_blank_third}
use Rattle.surface.proofs.is_blank_third.Goals as goal

pub returns : goal.returns
unfolding is_blank_third ◌and◌
returns c = grind arith
