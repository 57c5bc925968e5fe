use Rattle.std.proofs.Common.{arith}
use Rattle.text.specs.Choice.{◌and◌}
use Rattle.due.specs.Change.{change}
use Rattle.due.proofs.compare.Goals as goal

pub returns-then-not-valid_row : goal.returns-then-not-valid_row
unfolding change ◌and◌
returns-then-not-valid_row c = grind arith

pub returns-then-not-same_runway : goal.returns-then-not-same_runway
unfolding change ◌and◌
returns-then-not-same_runway c = grind arith

pub returns : goal.returns
unfolding change ◌and◌
returns c = grind arith
