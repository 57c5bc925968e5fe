use Rattle.std.specs.Prelude.{◌≡◌}
use Rattle.std.proofs.Common.{sym, ◌∙◌, arith, rules}
use Rattle.text.specs.Choice.{◌and◌, all}
use Rattle.text.specs.Laws.Iter.{all_each}
use Rattle.items.specs.Awareness.{may_follow, in_order, blank_item}
use Rattle.items.proofs.Steps.{none-in-order}
use Rattle.items.proofs.in_order.Goals as goal

pub returns-then-not-all : goal.returns-then-not-all
unfolding in_order ◌and◌
returns-then-not-all c =
    let s = c.in-Some in
    let follow : c.all.result ≡ all (may_follow s.a.now) s.others.now = all_each (may_follow s.a.now) s.others.now blank_item (search rules) in
    grind arith

pub loop-a-preserved : goal.loop-a-preserved
unfolding in_order ◌and◌
loop-a-preserved c =
    let s = c.in-Some in
    let follow : c.all.result ≡ all (may_follow s.a.now) s.others.now = all_each (may_follow s.a.now) s.others.now blank_item (search rules) in
    grind arith

pub returns : goal.returns
returns c = sym (c.loop-a.invariant ∙ none-in-order c.loop-a.rest.now c.in_default.ensures.cases)
