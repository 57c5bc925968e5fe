use Rattle.std.proofs.Common.{arith}
use Rattle.text.specs.Choice.{◌and◌}
use Rattle.items.specs.Item.{runway_fits}
use Rattle.items.proofs.runway_fits.Goals as goal

pub returns-then-on_runway : goal.returns-then-on_runway
unfolding runway_fits ◌and◌
returns-then-on_runway c = grind arith

pub returns-then-i-eq0 : goal.returns-then-i-eq0
unfolding runway_fits ◌and◌
returns-then-i-eq0 c = grind arith

pub returns-else-i-eq0 : goal.returns-else-i-eq0
unfolding runway_fits ◌and◌
returns-else-i-eq0 c = grind arith
