-- The invariant of both loops: past the spaces of what is left stands what stood past those at i.
use Rattle.std.proofs.Common.{◌≡◌, ◌-◌, ◌≤◌, length, drop}
use Rattle.text.specs.Names.{past, is_space}
use Rattle.scan.proofs.far_spaces.Given as goal

abbrev pub invariant-loop-j : goal.invariant-loop-j
invariant-loop-j l = (l.j ≤ length l.s) × (past is_space (drop l.j l.s) ≡ past is_space (drop l.i l.s))

abbrev pub decreases-loop-j : goal.decreases-loop-j
decreases-loop-j l = length l.s - l.j

abbrev pub invariant-loop-bytes : goal.invariant-loop-bytes
invariant-loop-bytes l = (l.j ≤ length l.s) × (past is_space (drop l.j l.s) ≡ past is_space (drop l.i l.s))

abbrev pub decreases-loop-bytes : goal.decreases-loop-bytes
decreases-loop-bytes l = length l.s - l.j
