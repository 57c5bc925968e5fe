use Rattle.std.proofs.Common.{◌≡◌, [], take, drop}
use Rattle.body.specs.Rows.{new_runways}
use Rattle.body.proofs.all_new.Given as goal

abbrev pub invariant-loop-i : goal.invariant-loop-i
invariant-loop-i l = new_runways [] l.rows ≡ new_runways (take l.i l.rows) (drop l.i l.rows)
