use Rattle.notice.specs.Laws.Text.{wrote-latest}
use Rattle.notice.proofs.write.Goals as goal

pub returns : goal.returns
returns c =
    wrote-latest _ _ c.latest_time.ensures c.write_at.ensures
