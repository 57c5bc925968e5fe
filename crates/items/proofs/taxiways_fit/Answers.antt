use Rattle.std.proofs.Common.{arith}
use Rattle.text.specs.Choice.{◌and◌}
use Rattle.items.specs.Item.{taxiways_fit}
use Rattle.items.proofs.taxiways_fit.Goals as goal

pub returns-then-n-le-MOST_TAXIWAYS : goal.returns-then-n-le-MOST_TAXIWAYS
unfolding taxiways_fit ◌and◌
returns-then-n-le-MOST_TAXIWAYS c = grind arith

pub returns-else-n-le-MOST_TAXIWAYS : goal.returns-else-n-le-MOST_TAXIWAYS
unfolding taxiways_fit ◌and◌
returns-else-n-le-MOST_TAXIWAYS c = grind arith
