use Rattle.std.proofs.Common.{arith}
use Rattle.text.specs.Choice.{◌and◌}
use Rattle.items.specs.Awareness.{other_apron}
use Rattle.items.proofs.other_apron.Goals as goal

pub returns-then-is_named-2 : goal.returns-then-is_named-2
unfolding other_apron ◌and◌
returns-then-is_named-2 c = grind arith

pub returns-else-is_named-2 : goal.returns-else-is_named-2
unfolding other_apron ◌and◌
returns-else-is_named-2 c = grind arith
