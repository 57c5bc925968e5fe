-- All of them are in order just where those that are left are.
use Rattle.std.specs.Prelude.{◌≡◌, length}
use Rattle.items.specs.Awareness.{in_order}
use Rattle.items.proofs.in_order.Given as goal

abbrev pub invariant-loop-a : goal.invariant-loop-a
invariant-loop-a l = in_order l.items ≡ in_order l.rest

abbrev pub decreases-loop-a : goal.decreases-loop-a
decreases-loop-a l = length l.rest
