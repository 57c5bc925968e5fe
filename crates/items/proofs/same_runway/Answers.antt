use Rattle.std.proofs.Common.{arith}
use Rattle.text.specs.Choice.{◌and◌}
use Rattle.items.specs.Awareness.{same_runway}
use Rattle.items.proofs.same_runway.Goals as goal

pub returns-then-a-b : goal.returns-then-a-b
unfolding same_runway ◌and◌
returns-then-a-b c = grind arith

pub returns-else-a-b : goal.returns-else-a-b
unfolding same_runway ◌and◌
returns-else-a-b c = grind arith
