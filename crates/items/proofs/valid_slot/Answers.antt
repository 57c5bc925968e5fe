use Rattle.std.proofs.Common.{arith}
use Rattle.text.specs.Choice.{◌and◌}
use Rattle.items.specs.Item.{valid_slot}
use Rattle.text.specs.Names.{is_letter, in_class}
use Rattle.text.specs.Laws.Runs.{one-counted}
use Rattle.items.proofs.valid_slot.Goals as goal

pub returns-then-counted : goal.returns-then-counted
unfolding valid_slot in_class ◌and◌
returns-then-counted c = grind (arith, one-counted is_letter c.args.s.now)

pub returns-else-counted : goal.returns-else-counted
unfolding valid_slot in_class ◌and◌
returns-else-counted c = grind (arith, one-counted is_letter c.args.s.now)
