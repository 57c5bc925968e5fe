use Rattle.std.proofs.Common.{sym}
use Rattle.rowtext.proofs.Parts.{answer-off}
use Rattle.rowtext.proofs.read_row.Goals as goal

pub returns-in-Ok : goal.returns-in-Ok
returns-in-Ok c = rw c.in-Ok.ensures

pub returns-in-Err : goal.returns-in-Err
returns-in-Err c = rw (c.number.ensures, c.blank_row.ensures) (sym (answer-off c.in-Err.ensures))
