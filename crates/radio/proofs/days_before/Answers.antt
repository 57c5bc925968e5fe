use Rattle.std.proofs.Common.{refl, arith}
use Rattle.radio.specs.Minutes.{days_in}
use Rattle.radio.proofs.Minutes.{days-few, days-next}
use Rattle.radio.proofs.days_before.Goals as goal

pub loop-m-init : goal.loop-m-init
unfolding days_in
loop-m-init c = (refl, omega arith)

pub overflow_add-days : goal.overflow_add-days
overflow_add-days c = omega (arith, c.days_of-days.ensures, days-few c.loop-m.m)

pub loop-m-preserved : goal.loop-m-preserved
loop-m-preserved c = let l = c.loop-m in let k = days-few l.m in (rw c.days_of-days.ensures (days-next l.m l.days (omega arith) l.invariant.0), omega (arith, c.days_of-days.ensures))
