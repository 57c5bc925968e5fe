-- The items so far and what is read from here on are what the whole line is.
use Rattle.std.specs.Prelude.{◌-◌}
use Rattle.items.specs.Awareness.{most_items}
use Rattle.awareness.proofs.LineReading.{SoFar}
use Rattle.awareness.proofs.items_into.Given as goal

abbrev pub invariant-items : goal.invariant-items
invariant-items l = SoFar l.line l.read.items l.read.count l.end l.at

abbrev pub decreases-items : goal.decreases-items
decreases-items l = most_items - l.read.count
