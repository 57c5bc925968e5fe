use native.Mathlib.Omega.{arith}
use Rattle.text.specs.Choice.{◌and◌}
use Rattle.surface.specs.Table1.{is_for}
use Rattle.surface.proofs.is_for.Goals as goal

pub returns-then-is_named : goal.returns-then-is_named
unfolding is_for ◌and◌
returns-then-is_named c = grind arith

pub returns-else-is_named : goal.returns-else-is_named
unfolding is_for ◌and◌
returns-else-is_named c = grind arith
