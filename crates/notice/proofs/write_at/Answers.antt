use Rattle.std.proofs.Common.{sym, ◌∙◌}
use Rattle.notice.specs.Laws.Text.{wrote-invalid}
use Rattle.notice.proofs.write_at.Goals as goal

pub write_valid-requires : goal.write_valid-requires
write_valid-requires c = sym c.valid_record.ensures ∙ c.if-not-valid_record.false

pub returns-then-not-valid_record : goal.returns-then-not-valid_record
returns-then-not-valid_record c = let a = c.args in rw c.from.ensures (wrote-invalid a.time a.r (sym c.valid_record.ensures ∙ c.if-not-valid_record.true))
