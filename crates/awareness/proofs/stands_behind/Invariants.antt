-- The item may stand behind all of them just where it may behind those that are left.
use Rattle.std.specs.Prelude.{◌≡◌, true, length}
use Rattle.items.specs.Awareness.{in_order, stands_behind}
use Rattle.awareness.proofs.stands_behind.Given as goal

abbrev pub invariant-loop-last : goal.invariant-loop-last
invariant-loop-last l = record {
  order : in_order l.before ≡ true;
  same : stands_behind l.items l.item ≡ stands_behind l.before l.item;
}

abbrev pub decreases-loop-last : goal.decreases-loop-last
decreases-loop-last l = length l.before
