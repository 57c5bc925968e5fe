use Rattle.std.proofs.Common.{◌≡◌, ◌∙◌, ap, rules, arith, length, length-take, take_all}
use Rattle.listing.specs.Listing.{disagreeing_thirds}
use Rattle.listing.proofs.Thirds.{thirds-next}
use Rattle.listing.proofs.disagreeing_thirds.Goals as goal

pub returns : goal.returns
returns c =
    let l = c.loop-row in
    l.invariant.0 ∙ ap disagreeing_thirds (take_all l.row-index c.shown-row-items.result.now c.loop-row-test.false ∙ c.shown-row-items.ensures)

pub loop-row-init : goal.loop-row-init
unfolding disagreeing_thirds
loop-row-init c = (search rules, omega arith)

pub overflow_add-n : goal.overflow_add-n
overflow_add-n c =
    let r = c.args.r in
    let n : length r.rows ≡ 8 = search rules in
    let h = rw c.shown-row-items.ensures at c.loop-row-test.true in
    omega (arith, length-take r.count r.rows, h, c.loop-row.invariant.1, c.disagreements-n.ensures.1)

pub loop-row-preserved : goal.loop-row-preserved
loop-row-preserved c =
    let l = c.loop-row in
    (thirds-next c.shown-row-items.result.now l.row-index _ c.loop-row-test.true l.invariant.0 c.disagreements-n.ensures.0, omega (arith, l.invariant.1, c.disagreements-n.ensures.1))
