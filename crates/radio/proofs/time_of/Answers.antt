use Prim.Native.Nat.{◌/◌}
use Rattle.radio.specs.Minutes.{clock_of, time_of}
use Rattle.radio.proofs.Minutes.{date-small}
use borrow.Author.Rules.{rules}
use native.Mathlib.Omega.{arith}
use Rattle.radio.proofs.time_of.Goals as goal

pub overflow_mul-result : goal.overflow_mul-result
overflow_mul-result c = omega (arith, c.date_of-date.ensures, date-small (c.args.x / 1440) (search rules))

pub overflow_add-result-2 : goal.overflow_add-result-2
overflow_add-result-2 c = omega (arith, c.date_of-date.ensures, date-small (c.args.x / 1440) (search rules))

pub returns : goal.returns
unfolding time_of clock_of
returns c = rw c.date_of-date.ensures
