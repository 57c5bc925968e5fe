use Rattle.std.proofs.Common.{◌≡◌, ◌∙◌, sym, ap, arith, length}
use Rattle.text.specs.Names.{past}
use Rattle.text.specs.Laws.Passed.{past_stop, past-on, past_off}
use Rattle.text.proofs.past.Goals as goal

pub loop-j-init : goal.loop-j-init
loop-j-init g c p t = ap (past p) c.place-j.ensures.left

pub returns-then-not-test : goal.returns-then-not-test
returns-then-not-test g c p t =
    let l = c.loop-j in
    record {
      within = omega arith;
      left = sym (past_off p c.args.s.now l.j c.loop-j-test.true (sym (t _ _ c.test.ensures) ∙ c.if-not-test.true)) ∙ l.invariant p t;
    }

pub loop-j-preserved : goal.loop-j-preserved
loop-j-preserved g c p t =
    let l = c.loop-j in
    sym (past-on p c.args.s.now l.j c.loop-j-test.true (sym (t _ _ c.test.ensures) ∙ c.if-not-test.false)) ∙ l.invariant p t

pub returns : goal.returns
returns g c p t =
    let l = c.loop-j in
    let z : l.j ≡ length c.args.s.now = omega (arith, c.place-j.ensures.within) in
    record { within = omega arith; left = rw (← z) (sym (past_stop p c.args.s.now l.j c.loop-j-test.false) ∙ l.invariant p t) }
