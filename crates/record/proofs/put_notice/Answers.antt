use Rattle.record.specs.Laws.{notice-parts}
use Rattle.text.specs.Laws.Put.{more}
use Rattle.record.proofs.put_notice.Goals as goal

pub returns : goal.returns
returns c =
    rw (notice-parts _ _) (more c.put_front-at.ensures (more c.put_rows-at.ensures (more c.put_remarks-at.ensures c.put.ensures)))
