use Rattle.text.specs.Laws.Put.{more}
use Rattle.rowtext.proofs.Writes.{row-bytes}
use Rattle.rowtext.proofs.put_any_row.Goals as goal

pub returns : goal.returns
returns c =
    rw (row-bytes c.args.row) (more c.put_digits-at.ensures (more c.put-at.ensures (more c.put_runway-at.ensures (more c.put_thirds-at.ensures (more c.put_middle-at.ensures (more c.put_thirds-at-2.ensures c.put_width.ensures))))))
