use Rattle.std.proofs.Common.{sym, ◌∙◌}
use Rattle.text.specs.Laws.Lines.{front-part}
use Rattle.text.proofs.line_text.Goals as goal

pub returns-then-is_closed : goal.returns-then-is_closed
returns-then-is_closed c = rw (sym c.is_closed.ensures ∙ c.if-is_closed.true) (sym (front-part c.args.line.now))
