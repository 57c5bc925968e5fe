use Rattle.std.proofs.Common.{arith, drop, length-drop, drop_of_length-le, sym, ◌∙◌}
use Rattle.desktext.proofs.Runways.{list_all, list-more, list-end, list-full, list-off}
use Rattle.desktext.proofs.runway_list.Goals as goal

pub loop-at-init : goal.loop-at-init
loop-at-init c = record { few = omega arith; rest = list_all c.args.s.now }

pub returns-then-list-eq-MOST_RUNWAYS : goal.returns-then-list-eq-MOST_RUNWAYS
returns-then-list-eq-MOST_RUNWAYS c =
    let m = c.args.s.now in
    let l = c.loop-at in
    list-full l.list (drop l.at m) (simp length-drop (omega arith)) (omega arith) ∙ l.invariant.rest

pub returns-in_err-found : goal.returns-in_err-found
returns-in_err-found c =
    let m = c.args.s.now in
    let l = c.loop-at in
    rw c.from_residual.ensures (list-off l.list (drop l.at m) (simp length-drop (omega arith)) (omega arith) c.in_err-found.ensures.says ∙ l.invariant.rest)

pub loop-at-preserved : goal.loop-at-preserved
loop-at-preserved c =
    let m = c.args.s.now in
    let l = c.loop-at in
    record { few = omega arith; rest = sym (list-more l.list (drop l.at m) (omega arith) c.in_ok-found.ensures.says) ∙ l.invariant.rest }

pub returns : goal.returns
returns c =
    let m = c.args.s.now in
    let l = c.loop-at in
    list-end l.list ∙ (rw (drop_of_length-le m c.loop-at-test.false) at l.invariant.rest)
