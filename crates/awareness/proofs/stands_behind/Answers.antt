use Rattle.std.proofs.Common.{sym, ◌∙◌}
use Rattle.awareness.proofs.Back.{back-on, back-off, back-lower, order-front}
use Rattle.awareness.proofs.stands_behind.Goals as goal

pub returns-then-last-item : goal.returns-then-last-item
returns-then-last-item c =
    let l = c.loop-last in
    let s = c.in-Some in
    let e = s.ensures.cases.0 in
    sym (l.invariant.same ∙ rw e (back-lower s.others.now s.last.now c.args.item (rw e at l.invariant.order) c.if-last-item.true))

pub returns-then-not-may_follow : goal.returns-then-not-may_follow
returns-then-not-may_follow c =
    let s = c.in-Some in
    sym (c.loop-last.invariant.same ∙ rw s.ensures.cases.0 (back-off s.others.now s.last.now c.args.item (sym c.if-not-may_follow.ensures)))

pub loop-last-preserved : goal.loop-last-preserved
loop-last-preserved c =
    let l = c.loop-last in
    let s = c.in-Some in
    let e = s.ensures.cases.0 in
    record {
      order = order-front s.others.now s.last.now (rw e at l.invariant.order);
      same = l.invariant.same ∙ rw e (back-on s.others.now s.last.now c.args.item (sym c.if-not-may_follow.ensures));
    }
