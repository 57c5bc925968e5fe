use Rattle.std.proofs.Common.{arith}
use Rattle.text.specs.Choice.{◌and◌}
use Rattle.row.specs.Row.{is_bare}
use Rattle.row.proofs.is_bare.Goals as goal

pub returns-then-t-eq0 : goal.returns-then-t-eq0
unfolding is_bare ◌and◌
returns-then-t-eq0 c = grind arith

pub returns-else-t-eq0 : goal.returns-else-t-eq0
unfolding is_bare ◌and◌
returns-else-t-eq0 c = grind arith
