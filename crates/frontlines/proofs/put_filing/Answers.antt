use Rattle.text.specs.Laws.Put.{more}
use Rattle.frontlines.proofs.Writes.{filing-text}
use Rattle.frontlines.proofs.put_filing.Goals as goal

pub returns : goal.returns
returns c =
    rw (filing-text c.args.f) (more c.put_digits-at.ensures (more c.put-at.ensures c.put.ensures))
