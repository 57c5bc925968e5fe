use Rattle.std.proofs.Common.{◌∙◌}
use Rattle.text.specs.Laws.Put.{over_zeros}
use Rattle.awareness.proofs.apron_item.Goals as goal

pub returns : goal.returns
returns c =
    let e = c.put.ensures.holds ∙ over_zeros 0 16 c.args.name.now c.requires in
    rw e
