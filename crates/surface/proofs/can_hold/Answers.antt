use native.Mathlib.Omega.{arith}
use Rattle.surface.specs.Table1.{can_hold}
use Rattle.surface.proofs.can_hold.Goals as goal

pub returns-in-DepthTo : goal.returns-in-DepthTo
unfolding can_hold
returns-in-DepthTo c = grind arith

pub returns-in-DepthOver : goal.returns-in-DepthOver
unfolding can_hold
returns-in-DepthOver c = grind arith

pub returns-in_default : goal.returns-in_default
unfolding can_hold
returns-in_default c = grind arith
