use Rattle.std.proofs.Common.{sym, ◌∙◌, append-nil, append_assoc}
use Rattle.text.specs.Laws.Put.{more}
use Rattle.wording.proofs.Writing.{names-step, names-end}
use Rattle.wording.proofs.put_taxiways.Goals as goal

pub loop-preserved : goal.loop-preserved
loop-preserved c =
    let l = c.loop in
    let step = rw (← c.first_slot.ensures.slot, ← c.first_slot.ensures.rest) at (names-step c.args.n l.counter l.rest.now c.loop-test.true) in
    (_, more l.invariant.1 (more c.put-name.ensures c.put_name-behind.ensures), l.invariant.2 ∙ rw step (sym (append_assoc l.invariant.0 _ _)))

pub returns : goal.returns
returns c =
    let l = c.loop in
    let all = l.invariant.2 ∙ rw (names-end c.args.n l.counter l.rest.now c.loop-test.false) (append-nil l.invariant.0) in
    rw all l.invariant.1
