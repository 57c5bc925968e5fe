use Rattle.text.specs.Laws.Put.{more}
use Rattle.listing.specs.Laws.{put-refusal, put_record}
use Rattle.listing.proofs.list.Goals as goal

pub returns-then-a-ne0 : goal.returns-then-a-ne0
returns-then-a-ne0 c =
    put-refusal _ c.read-a.result c.read-a.ensures c.if-a-ne0.true c.put_refused.ensures

pub returns : goal.returns
returns c =
    put_record _ c.read-a.result c.read-a.ensures c.if-a-ne0.false (more c.put_accepted-at.ensures c.notice_at.ensures)
