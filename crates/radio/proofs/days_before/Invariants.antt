use Rattle.std.proofs.Common.{◌≡◌, ◌-◌, ◌*◌, ◌≤◌}
use Rattle.radio.specs.Minutes.{days_in}
use Rattle.radio.proofs.days_before.Given as goal

abbrev pub invariant-loop-m : goal.invariant-loop-m
invariant-loop-m l = (l.days ≡ days_in (l.m - 1)) × (l.days ≤ 31 * (l.m - 1))
