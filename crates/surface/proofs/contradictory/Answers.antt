use native.Mathlib.Omega.{arith}
use Rattle.surface.specs.Assess.{contradictory}
use Rattle.surface.proofs.contradictory.Goals as goal

pub returns-then-deep_other : goal.returns-then-deep_other
unfolding contradictory
returns-then-deep_other c = grind arith

pub returns-else-deep_other : goal.returns-else-deep_other
unfolding contradictory
returns-else-deep_other c = grind arith
