use Rattle.std.proofs.Common.{arith}
use Rattle.text.specs.Choice.{◌and◌}
use Rattle.awareness.proofs.is_apron.Goals as goal

pub returns : goal.returns
unfolding ◌and◌
returns c = grind arith
