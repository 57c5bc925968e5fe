use Rattle.std.proofs.Common.{arith}
use Rattle.text.specs.Choice.{◌and◌}
use Rattle.items.specs.Item.{amount_fits}
use Rattle.items.proofs.amount_fits.Goals as goal

pub returns-in-73 : goal.returns-in-73
unfolding amount_fits ◌and◌
returns-in-73 c = grind arith

pub returns-in-77 : goal.returns-in-77
unfolding amount_fits ◌and◌
returns-in-77 c = grind arith

pub returns-in_default : goal.returns-in_default
unfolding amount_fits ◌and◌
returns-in_default c = grind arith
