use Rattle.std.proofs.Common.{rules}
use Rattle.text.specs.Lines.{under}
use Rattle.text.specs.Laws.Put.{nothing_put, more}
use Rattle.body.proofs.Loops.{text-next}
use Rattle.body.proofs.put_rows.Goals as goal

pub loop-row-init : goal.loop-row-init
unfolding under
loop-row-init c = nothing_put c.args.out.now c.told_behind-behind.ensures

pub loop-row-preserved : goal.loop-row-preserved
loop-row-preserved c = rw (text-next c.shown-row-items.result.now c.loop-row.row-index c.loop-row-test.true) (more c.loop-row.invariant (search rules))
