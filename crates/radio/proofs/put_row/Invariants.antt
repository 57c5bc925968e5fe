use Rattle.radio.proofs.Writing.{PutFields}
use Rattle.radio.proofs.put_row.Given as goal

abbrev pub invariant-loop-field : goal.invariant-loop-field
invariant-loop-field l = PutFields l.row l.field-index l.at l.initial.out l.out l.behind
