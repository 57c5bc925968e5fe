use Rattle.std.proofs.Common.{arith}
use Rattle.text.specs.Choice.{◌and◌}
use Rattle.text.specs.Names.{is_letter, in_class}
use Rattle.text.specs.Laws.Runs.{one-counted}
use Rattle.items.specs.Item.{is_taxiway}
use Rattle.awareness.proofs.is_taxiway.Goals as goal

pub returns-then-counted : goal.returns-then-counted
unfolding is_taxiway in_class ◌and◌
returns-then-counted c = grind (arith, one-counted is_letter c.args.name.now)

pub returns-else-counted : goal.returns-else-counted
unfolding is_taxiway in_class ◌and◌
returns-else-counted c = grind (arith, one-counted is_letter c.args.name.now)
