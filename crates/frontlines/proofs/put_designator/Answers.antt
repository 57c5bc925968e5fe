use Rattle.text.specs.Laws.Put.{more}
use Rattle.frontlines.proofs.Writes.{designator-text}
use Rattle.frontlines.proofs.put_designator.Goals as goal

pub returns : goal.returns
returns c =
    rw (designator-text c.args.region c.args.serial) (more c.put-at.ensures (more c.put-at-2.ensures (rw c.from.ensures at c.put_digits.ensures)))
