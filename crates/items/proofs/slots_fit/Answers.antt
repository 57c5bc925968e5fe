use Rattle.std.proofs.Common.{sym, ◌∙◌, arith}
use Rattle.text.specs.Choice.{◌and◌}
use Rattle.items.proofs.Steps.{slots-step, slots_end}
use Rattle.items.proofs.slots_fit.Goals as goal

pub returns-then-not-is_new : goal.returns-then-not-is_new
unfolding ◌and◌
returns-then-not-is_new c = grind (arith, slots-step c.args.n c.loop-k.k c.loop-k.rest.now c.loop-k-test.true)

pub loop-k-preserved : goal.loop-k-preserved
unfolding ◌and◌
loop-k-preserved c = grind (arith, slots-step c.args.n c.loop-k.k c.loop-k.rest.now c.loop-k-test.true)

pub returns : goal.returns
returns c = let l = c.loop-k in c.zeros_from.ensures ∙ sym (l.invariant ∙ slots_end c.args.n l.k l.rest.now c.loop-k-test.false)
