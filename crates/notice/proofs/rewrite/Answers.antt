use Rattle.std.proofs.Common.{refl, rules}
use Rattle.notice.specs.Laws.Text.{wrote-latest}
use Rattle.notice.specs.Laws.Rewriting.{rewrote-refused, rewrote-accepted}
use Rattle.notice.specs.Theorems.{read-valid}
use Rattle.notice.proofs.rewrite.Goals as goal

pub write_valid-requires : goal.write_valid-requires
write_valid-requires c = read-valid c.args.message.now _ c.in-Ok.ensures.0 refl

pub returns-in-Ok : goal.returns-in-Ok
returns-in-Ok c = rewrote-accepted c.args.message.now _ c.in-Ok.ensures.0 refl (wrote-latest _ _ c.latest_time.ensures c.write_valid.ensures)

pub returns-in-Err : goal.returns-in-Err
returns-in-Err c = rw c.from.ensures (rewrote-refused c.args.message.now _ c.in-Err.ensures.0 (search rules))
