use Rattle.radio.specs.Minutes.{day_number, minute_number, minutes_of}
use Rattle.radio.proofs.Minutes.{parts}
use native.Mathlib.Omega.{arith}
use Rattle.radio.proofs.minutes_of.Goals as goal

pub days_before-requires : goal.days_before-requires
days_before-requires c = let k = parts c.args.t c.requires in (k.from-1, k.to-12)

pub overflow_sub-days : goal.overflow_sub-days
overflow_sub-days c = omega (arith, (parts c.args.t c.requires).day)

pub returns : goal.returns
unfolding minutes_of day_number minute_number
returns c = rw c.days_before.ensures.0
