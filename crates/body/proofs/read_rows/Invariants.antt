-- The rows so far and what is read from here on are what the whole message is.
use Rattle.std.proofs.Common.{◌-◌}
use Rattle.body.specs.Rows.{most_rows}
use Rattle.body.proofs.Steps.{SoFar}
use Rattle.body.proofs.read_rows.Given as goal

abbrev pub invariant-lines : goal.invariant-lines
invariant-lines l = SoFar l.m l.rows l.at

abbrev pub decreases-lines : goal.decreases-lines
decreases-lines l = most_rows - l.rows.count
