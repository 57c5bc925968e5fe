use Rattle.std.specs.Prelude.{◌≡◌, length}
use Rattle.std.proofs.Common.{arith, rules}
use Rattle.text.specs.Choice.{◌and◌, all}
use Rattle.text.specs.Laws.Iter.{all_each}
use Rattle.items.specs.Awareness.{valid_items, blank_item, is_blank_item}
use Rattle.items.specs.Parts.{holds_items}
use Rattle.items.proofs.holds_items.Goals as goal

pub returns-then-i-gt-MOST_ITEMS : goal.returns-then-i-gt-MOST_ITEMS
unfolding holds_items ◌and◌
returns-then-i-gt-MOST_ITEMS c = grind arith

pub returns-then-sound_items : goal.returns-then-sound_items
unfolding holds_items valid_items ◌and◌
returns-then-sound_items c =
    let rest = c.split_at.result.1.now in
    let size : length c.args.i.items ≡ 32 = search rules in
    let blank : c.all.result ≡ all is_blank_item rest = all_each is_blank_item rest blank_item (search rules) in
    grind arith

pub returns-else-sound_items : goal.returns-else-sound_items
unfolding holds_items valid_items ◌and◌
returns-else-sound_items c = let size : length c.args.i.items ≡ 32 = search rules in grind arith
