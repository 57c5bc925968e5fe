use Rattle.text.specs.Laws.Put.{more}
use Rattle.frontlines.proofs.Writes.{heading-text}
use Rattle.frontlines.proofs.put_heading.Goals as goal

pub returns : goal.returns
returns c =
    rw (heading-text c.args.h) (more c.put_designator-at.ensures (more c.put-at.ensures (more c.put-at-2.ensures (more c.put-at-3.ensures c.put_digits.ensures))))
