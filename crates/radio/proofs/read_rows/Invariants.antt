use Rattle.radio.proofs.Rows.{SoFar}
use Rattle.radio.proofs.read_rows.Given as goal

abbrev pub invariant-loop-k : goal.invariant-loop-k
invariant-loop-k l = SoFar l.m l.count l.rows l.k l.at
