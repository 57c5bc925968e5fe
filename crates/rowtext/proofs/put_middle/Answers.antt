use Rattle.text.specs.Laws.Put.{more, canonical-append}
use Rattle.thirds.specs.declared.Group.TheVariants.{Coverages, Depths}
use Rattle.rowtext.specs.Text.{group_of, middle_pieces}
use Rattle.rowtext.proofs.put_middle.Goals as goal

pub returns : goal.returns
unfolding middle_pieces
returns c =
    let r = c.args.row in
    rw (← c.is_short.ensures, c.if-is_short.false, canonical-append (group_of Coverages r) (group_of Depths r)) (more c.put_thirds-at.ensures c.put_thirds.ensures)
