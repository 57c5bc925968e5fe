use Rattle.std.proofs.Common.{◌≡◌, ◌-◌, ◌<◌}
use Rattle.radio.specs.Minutes.{date_from, date_of}
use Rattle.radio.proofs.date_of.Given as goal

abbrev pub invariant-loop-month : goal.invariant-loop-month
invariant-loop-month l = (l.left < 366) × (date_from (12 - l.month) l.month l.left ≡ date_of l.day)
