use Rattle.std.proofs.Common.{arith}
use Rattle.text.specs.Choice.{◌and◌}
use Rattle.items.specs.Item.{edge_fits}
use Rattle.items.proofs.edge_fits.Goals as goal

pub returns-in-77 : goal.returns-in-77
unfolding edge_fits ◌and◌
returns-in-77 c = grind arith

pub returns-in_default : goal.returns-in_default
unfolding edge_fits ◌and◌
returns-in_default c = grind arith
