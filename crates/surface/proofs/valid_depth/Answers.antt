use native.Mathlib.Omega.{arith}
use Rattle.text.specs.Choice.{◌and◌}
use Rattle.surface.specs.Third.{valid_depth}
use Rattle.surface.proofs.valid_depth.Goals as goal

pub returns-then-t-eq0 : goal.returns-then-t-eq0
unfolding valid_depth ◌and◌
returns-then-t-eq0 c = grind arith

pub returns-then-is_reported : goal.returns-then-is_reported
unfolding valid_depth ◌and◌
returns-then-is_reported c = grind arith

pub returns-else-is_reported : goal.returns-else-is_reported
unfolding valid_depth ◌and◌
returns-else-is_reported c = grind arith
