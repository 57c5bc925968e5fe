use Rattle.text.specs.Laws.Put.{more}
use Rattle.wording.proofs.Writing.{length-bytes}
use Rattle.wording.proofs.put_length.Goals as goal

pub returns : goal.returns
returns c =
    rw (length-bytes c.args.i) (more c.put_of_runway-at.ensures (more c.put-at.ensures c.put_number.ensures))
