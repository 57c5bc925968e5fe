use Rattle.std.proofs.Common.{refl}
use Rattle.notice.specs.Laws.Same.{compared}
use Rattle.notice.proofs.same.Goals as goal

pub returns : goal.returns
returns c = compared c.args.a.now c.args.b.now _ c.in-Ok.ensures.0 _ c.in-Ok-record_into.ensures.0 refl refl c.same_record.result c.same_record.ensures
