-- The invariant: the addresses that are left, put behind those in the array, give what the whole list gives.
use Rattle.std.proofs.Common.{◌≡◌, ◌-◌, ◌≤◌, length, drop}
use Rattle.frontlines.specs.Code.Answers.{list_answer}
use Rattle.frontlines.proofs.List.{onto, list_from}
use Rattle.frontlines.proofs.address_list.Given as goal

abbrev pub invariant-groups : goal.invariant-groups
invariant-groups l = (l.count ≤ 8) × (length l.letters ≡ 64) × (onto l.count l.letters (list_from l.count (drop l.at l.s)) ≡ list_answer (list_from 0 (drop l.i l.s)))

abbrev pub decreases-groups : goal.decreases-groups
decreases-groups l = 8 - l.count
