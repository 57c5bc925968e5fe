-- The invariant: the taxiways that are left, put behind those in the array, give what all of them give.
use Rattle.std.specs.Prelude.{◌-◌, ◌≤◌, ◌≡◌, length, drop}
use Rattle.text.specs.Read.{read_as}
use Rattle.items.specs.ReadItem.{read_some_taxiways}
use Rattle.awareness.specs.Code.Named.{in_slots}
use Rattle.awareness.proofs.Slots.{read_from}
use Rattle.awareness.proofs.some_taxiways.Given as goal

abbrev pub invariant-loop-count : goal.invariant-loop-count
invariant-loop-count l = record {
  within : l.at ≤ length l.s;
  few : l.count ≤ 8;
  left : read_from l.count l.taxiways (drop l.at l.s) ≡ read_as in_slots (read_some_taxiways 8) (drop l.i l.s);
}

abbrev pub decreases-loop-count : goal.decreases-loop-count
decreases-loop-count l = 8 - l.count
