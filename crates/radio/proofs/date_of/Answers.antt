use Rattle.std.proofs.Common.{arith}
use Rattle.radio.proofs.Minutes.{date-here, date-later, date-last}
use Rattle.radio.proofs.date_of.Goals as goal

pub returns-then-left-days : goal.returns-then-left-days
returns-then-left-days c = let l = c.loop-month in date-here c.args.day l.month l.left (omega (arith, c.days_of-days.ensures)) l.invariant.1

pub loop-month-preserved : goal.loop-month-preserved
loop-month-preserved c =
    let l = c.loop-month in
    (omega arith, date-later c.args.day l.month l.left c.days_of-days.result (omega arith) c.days_of-days.ensures c.if-left-days.false l.invariant.1)

pub returns : goal.returns
returns c = let l = c.loop-month in date-last c.args.day l.month l.left (omega arith) l.invariant.1
