use Rattle.std.proofs.Common.{◌+◌, refl, arith, take_all}
use Rattle.text.specs.Laws.Put.{more}
use Rattle.wording.proofs.Line.{no-line, line-first, line-next}
use Rattle.wording.proofs.put_awareness.Goals as goal

pub returns-in_default : goal.returns-in_default
returns-in_default c = rw (no-line c.args.items.now c.in_default.ensures.cases) (record { place = c.told_behind.ensures; holds = refl })

pub loop-item-init : goal.loop-item-init
loop-item-init c =
    let s = c.in-Some in
    rw (s.ensures.cases.0, line-first s.first.now s.others.now) c.put_item-behind.ensures

pub loop-item-preserved : goal.loop-item-preserved
loop-item-preserved c =
    let s = c.in-Some in
    let l = c.loop-item in
    let e = s.ensures.cases.0 in
    rw (e, line-next s.first.now s.others.now l.item-index c.loop-item-test.true)
    (more (rw e at l.invariant) (more c.put-start.ensures c.put_item-behind-in-loop-item.ensures))

pub returns : goal.returns
returns c = let l = c.loop-item in rw (take_all (l.item-index + 1) c.args.items.now (omega (arith, c.in-Some.ensures.cases.1))) at l.invariant
