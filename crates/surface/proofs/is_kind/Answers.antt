use native.Mathlib.Omega.{arith}
use Rattle.text.specs.Choice.{◌and◌}
use Rattle.surface.specs.Assess.{is_kind}
use Rattle.surface.proofs.is_kind.Goals as goal

pub returns : goal.returns
unfolding is_kind ◌and◌
returns c = grind arith
