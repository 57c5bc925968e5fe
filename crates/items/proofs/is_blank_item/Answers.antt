use Rattle.std.specs.Prelude.{◌≡◌, ◌↔◌, IsTrue}
use Rattle.std.proofs.Common.{rules}
use Rattle.items.specs.declared.Item.{Item}
use Rattle.items.specs.Awareness.{blank_item}
use Rattle.items.proofs.Steps.{blank-told}
use Rattle.items.proofs.is_blank_item.Goals as goal

pub returns : goal.returns
returns c =
    let same : IsTrue c.eq.result ↔ ◌≡◌ {A = Item} c.args.i blank_item = search rules in
    blank-told c.args.i c.eq.result same
