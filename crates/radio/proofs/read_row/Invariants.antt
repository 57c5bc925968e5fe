use Rattle.radio.proofs.Rows.{Going}
use Rattle.radio.proofs.read_row.Given as goal

abbrev pub invariant-loop-field : goal.invariant-loop-field
invariant-loop-field l = Going l.s l.at l.field-index l.row
