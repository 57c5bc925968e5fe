use native.Mathlib.Omega.{arith}
use Rattle.text.specs.Choice.{◌and◌}
use Rattle.surface.specs.Table1.{allows}
use Rattle.surface.proofs.allows.Goals as goal

pub returns-then-code-t : goal.returns-then-code-t
unfolding allows ◌and◌
returns-then-code-t c = grind arith

pub returns-else-code-t : goal.returns-else-code-t
unfolding allows ◌and◌
returns-else-code-t c = grind arith
