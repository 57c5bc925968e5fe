use native.Mathlib.Omega.{arith}
use Rattle.surface.specs.Assess.{reported_depth}
use Rattle.surface.proofs.reported_depth.Goals as goal

pub returns-then-is_reported : goal.returns-then-is_reported
unfolding reported_depth
returns-then-is_reported c = grind arith

pub returns-else-is_reported : goal.returns-else-is_reported
unfolding reported_depth
returns-else-is_reported c = grind arith
