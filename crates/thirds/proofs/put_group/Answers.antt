use Rattle.text.specs.Laws.Put.{more}
use Rattle.thirds.specs.Code.Held.{three}
use Rattle.thirds.proofs.Joints.{group-bytes}
use Rattle.thirds.proofs.put_group.Goals as goal

pub returns : goal.returns
returns c =
    rw (group-bytes c.args.group (three c.args.numbers)) (more c.put-at.ensures (more c.put_third-at.ensures (more c.put-at-2.ensures (more c.put_third-at-2.ensures (more c.put-at-3.ensures c.put_third.ensures)))))
