use Rattle.text.specs.Laws.Put.{more}
use Rattle.wording.proofs.Writing.{bank-bytes}
use Rattle.wording.proofs.put_bank.Goals as goal

pub returns : goal.returns
returns c =
    rw (bank-bytes c.args.i)
    (more c.put_of_runway-at.ensures (more c.put-at.ensures (more c.put_edge-at.ensures (more (rw c.from.ensures at c.put_digits-at.ensures) c.put.ensures))))
