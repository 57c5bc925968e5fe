use native.Mathlib.Omega.{arith}
use Rattle.surface.specs.Assess.{deep_other}
use Rattle.surface.proofs.deep_other.Goals as goal

pub returns-then-not-is_deep : goal.returns-then-not-is_deep
unfolding deep_other
returns-then-not-is_deep c = grind arith

pub returns-else-not-is_deep : goal.returns-else-not-is_deep
unfolding deep_other
returns-else-not-is_deep c = grind arith
