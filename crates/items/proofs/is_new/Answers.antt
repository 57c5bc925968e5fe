use Rattle.std.specs.Prelude.{eqb}
use Rattle.std.proofs.Common.{sym, ◌∙◌, arith}
use Rattle.text.specs.Choice.{◌and◌}
use Rattle.text.specs.Laws.Iter.{same-pointwise}
use Rattle.items.proofs.Steps.{new-step, new-end}
use Rattle.items.proofs.is_new.Goals as goal

pub returns-then-eq : goal.returns-then-eq
unfolding ◌and◌
returns-then-eq c =
    let w = c.args.w.now in
    grind (arith, new-step c.args.n c.loop.counter c.loop.rest.now c.loop-test.true w, same-pointwise eqb w c.first_slot.result.0.now)

pub loop-preserved : goal.loop-preserved
unfolding ◌and◌
loop-preserved c =
    let w = c.args.w.now in
    grind (arith, new-step c.args.n c.loop.counter c.loop.rest.now c.loop-test.true w, same-pointwise eqb w c.first_slot.result.0.now)

pub returns : goal.returns
returns c = let l = c.loop in sym (l.invariant ∙ new-end c.args.n l.counter l.rest.now c.loop-test.false c.args.w.now)
