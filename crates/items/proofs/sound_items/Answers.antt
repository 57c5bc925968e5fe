use Rattle.std.specs.Prelude.{◌≡◌}
use Rattle.std.proofs.Common.{arith, rules}
use Rattle.text.specs.Choice.{◌and◌, all}
use Rattle.text.specs.Laws.Iter.{all_each}
use Rattle.items.specs.Item.{valid_item}
use Rattle.items.specs.Awareness.{sound_items, blank_item}
use Rattle.items.proofs.sound_items.Goals as goal

pub returns-then-all : goal.returns-then-all
unfolding sound_items ◌and◌
returns-then-all c =
    let is = c.args.items.now in
    let valid : c.all.result ≡ all valid_item is = all_each valid_item is blank_item (search rules) in
    grind arith

pub returns-else-all : goal.returns-else-all
unfolding sound_items ◌and◌
returns-else-all c =
    let is = c.args.items.now in
    let valid : c.all.result ≡ all valid_item is = all_each valid_item is blank_item (search rules) in
    grind arith
