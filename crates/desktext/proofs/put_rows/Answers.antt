use Rattle.std.proofs.Common.{arith}
use Rattle.text.specs.Laws.Put.{nothing_put}
use Rattle.desktext.specs.Desk.{shown_rows}
use Rattle.desktext.proofs.Steps.{rows_more, rows_all}
use Rattle.desktext.proofs.put_rows.Goals as goal

pub loop-r-init : goal.loop-r-init
unfolding shown_rows
loop-r-init c = nothing_put c.args.out.now c.told_behind-behind.ensures

pub loop-r-preserved : goal.loop-r-preserved
loop-r-preserved c = rows_more c.args.b c.loop-r.r-index _ (omega arith) c.loop-r.invariant c.shown_at-behind.ensures

pub returns : goal.returns
returns c = rows_all c.args.b _ (omega arith) c.loop-r.invariant
