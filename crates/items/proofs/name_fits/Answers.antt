use Rattle.std.proofs.Common.{arith}
use Rattle.text.specs.Choice.{◌and◌}
use Rattle.items.specs.Item.{name_fits}
use Rattle.text.specs.Names.{in_class}
use Rattle.items.proofs.name_fits.Goals as goal

pub returns : goal.returns
unfolding name_fits in_class ◌and◌
returns c = grind arith
