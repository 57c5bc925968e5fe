use native.Mathlib.Omega.{arith}
use Rattle.surface.specs.Assess.{reported_kind}
use Rattle.surface.proofs.reported_kind.Goals as goal

pub returns-then-is_thin_water : goal.returns-then-is_thin_water
unfolding reported_kind
returns-then-is_thin_water c = grind arith

pub returns-else-is_thin_water : goal.returns-else-is_thin_water
unfolding reported_kind
returns-else-is_thin_water c = grind arith
