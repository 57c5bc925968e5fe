-- The invariant of the loop over blocks: past the run of what is left stands what stands past the whole run.
use Prim.Native.Nat.{◌-◌, ◌≤◌}
use mathlib.Core.Path.{◌≡◌}
use lib.ListN.{length, drop}
use Rattle.text.specs.Names.{past}
use Rattle.text.specs.Code.Held.{is_unfed}
use Rattle.text.proofs.unfed_size.Given as goal

abbrev pub invariant-loop-i : goal.invariant-loop-i
invariant-loop-i l = (l.i ≤ length l.m) × (past is_unfed (drop l.i l.m) ≡ past is_unfed l.m)

abbrev pub decreases-loop-i : goal.decreases-loop-i
decreases-loop-i l = length l.m - l.i
