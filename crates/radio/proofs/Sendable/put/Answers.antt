use Rattle.std.proofs.Common.{arith}
use Rattle.radio.proofs.Writing.{few_rows, valid-here, count-put, row_put, rows-put}
use Rattle.radio.proofs.Sendable.put.Goals as goal

pub overflow_cast-self : goal.overflow_cast-self
overflow_cast-self c = let s = c.args.self.now in omega (arith, few_rows s.rows.now s.sendable)

pub put_number-behind-requires : goal.put_number-behind-requires
put_number-behind-requires c = let s = c.args.self.now in omega (arith, few_rows s.rows.now s.sendable)

pub loop-row-init : goal.loop-row-init
loop-row-init c = count-put c.args.self.now.rows.now c.put_number-behind.ensures

pub put_row-behind-requires : goal.put_row-behind-requires
put_row-behind-requires c = let s = c.args.self.now in valid-here s.rows.now s.sendable c.loop-row.row-index _ c.loop-row-test.true

pub loop-row-preserved : goal.loop-row-preserved
loop-row-preserved c = row_put c.args.self.now.rows.now c.loop-row.row-index _ c.loop-row-test.true c.loop-row.invariant c.put_row-behind.ensures

pub returns : goal.returns
returns c = rows-put c.args.self.now.rows.now (omega arith) c.loop-row.invariant
