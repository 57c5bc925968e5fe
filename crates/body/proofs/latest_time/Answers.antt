use Rattle.std.proofs.Common.{rules}
use Rattle.body.proofs.Loops.{latest_none, latest_some}
use Rattle.body.proofs.latest_time.Goals as goal

pub returns-in-empty : goal.returns-in-empty
returns-in-empty c = latest_none c.shown.ensures c.in-empty.len_below

pub returns-in-len1-up : goal.returns-in-len1-up
returns-in-len1-up c = latest_some c.shown.ensures c.in-len1-up.len_at_least (search rules)
