-- The runways that are left, put behind those of the list, give what the whole line gives.
use Rattle.std.proofs.Common.{◌≡◌, ◌-◌, ◌≤◌, drop}
use Rattle.text.specs.Read.{whole}
use Rattle.desktext.specs.Line.{read_runways, list_found}
use Rattle.desktext.proofs.Runways.{list_with}
use Rattle.desktext.proofs.runway_list.Given as goal

abbrev pub invariant-loop-at : goal.invariant-loop-at
invariant-loop-at l = record {
  few : l.list.count ≤ 8;
  rest : list_with l.list (drop l.at l.s) ≡ list_found (whole (read_runways l.s));
}

abbrev pub decreases-loop-at : goal.decreases-loop-at
decreases-loop-at l = 8 - l.list.count
