use native.Mathlib.Omega.{arith}
use Rattle.surface.specs.Assess.{slippery_other}
use Rattle.surface.proofs.slippery_other.Goals as goal

pub returns-then-s-ne-WET : goal.returns-then-s-ne-WET
unfolding slippery_other
returns-then-s-ne-WET c = grind arith

pub returns-else-s-ne-WET : goal.returns-else-s-ne-WET
unfolding slippery_other
returns-else-s-ne-WET c = grind arith
