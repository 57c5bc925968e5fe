-- The invariant: the thirds that are left, behind the numbers in the array, are what the group is.
use Rattle.std.proofs.Common.{◌≡◌, ◌<◌, ◌≤◌, length, drop}
use Rattle.thirds.specs.Groups.{read_group}
use Rattle.thirds.proofs.Joints.{rest_from}
use Rattle.thirds.proofs.read_group.Given as goal

abbrev pub invariant-loop-k : goal.invariant-loop-k
invariant-loop-k l =
    (length l.numbers ≡ 3) × (0 < l.k → l.next ≤ length l.s) × (rest_from l.group l.k l.numbers (drop l.next l.s) ≡ read_group l.group (drop l.i l.s))
