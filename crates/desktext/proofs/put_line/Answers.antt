use Rattle.std.proofs.Common.{sym}
use Rattle.text.specs.Laws.Put.{more}
use Rattle.desktext.proofs.Lines.{shown_line}
use Rattle.desktext.proofs.put_line.Goals as goal

pub returns : goal.returns
returns c = rw (shown_line _ (sym c.if-not-valid_row.ensures)) (more c.put_any_row-at.ensures c.put-2.ensures)
