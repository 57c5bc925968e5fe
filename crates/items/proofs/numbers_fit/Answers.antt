use Rattle.std.proofs.Common.{arith}
use Rattle.text.specs.Choice.{◌and◌}
use Rattle.items.specs.Item.{numbers_fit}
use Rattle.items.proofs.numbers_fit.Goals as goal

pub returns-then-edge_fits : goal.returns-then-edge_fits
unfolding numbers_fit ◌and◌
returns-then-edge_fits c = grind arith

pub returns-else-edge_fits : goal.returns-else-edge_fits
unfolding numbers_fit ◌and◌
returns-else-edge_fits c = grind arith
