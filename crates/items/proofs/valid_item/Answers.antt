use Rattle.std.proofs.Common.{arith}
use Rattle.text.specs.Choice.{◌and◌}
use Rattle.items.specs.Item.{valid_item}
use Rattle.items.proofs.valid_item.Goals as goal

pub returns-then-taxiways_fit : goal.returns-then-taxiways_fit
unfolding valid_item ◌and◌
returns-then-taxiways_fit c = grind arith

pub returns-else-taxiways_fit : goal.returns-else-taxiways_fit
unfolding valid_item ◌and◌
returns-else-taxiways_fit c = grind arith
