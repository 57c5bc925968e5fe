use native.Mathlib.Omega.{arith}
use Rattle.surface.specs.Assess.{is_shallow}
use Rattle.surface.proofs.is_shallow.Goals as goal

pub returns : goal.returns
unfolding is_shallow
returns c = grind arith
