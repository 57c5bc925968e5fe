use Rattle.std.proofs.Common.{rules}
use Rattle.record.specs.Laws.{notice-latest}
use Rattle.record.specs.Notice.{notice_text_at}
use Rattle.listing.proofs.notice_at.Goals as goal

pub returns : goal.returns
returns c =
    rw (← (notice-latest _), ← c.latest_time-time.ensures) (c.in_rest.ensures (notice_text_at c.latest_time-time.result c.args.r) (search rules))
