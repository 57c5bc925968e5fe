use Rattle.std.proofs.Common.{refl, sym, ◌∙◌, drop, arith, rules, length-set}
use Rattle.thirds.proofs.Joints.{from-start, from_step, from_end}
use Rattle.thirds.proofs.read_group.Goals as goal

pub loop-k-init : goal.loop-k-init
loop-k-init c = let a = c.args in (refl, search rules, from-start a.group 0 0 0 (drop a.i a.s.now))

pub returns-in_err-found : goal.returns-in_err-found
returns-in_err-found c =
    let l = c.loop-k in
    let f = c.in_err-found.ensures in
    let is = sym l.invariant.2 ∙ rw (from_step c.args.group l.k l.numbers (drop l.next c.args.s.now) c.loop-k-test.true, f.says) in
    rw c.from_residual.ensures (record { told = record { within = f.within; says = is }; no_more = tt })

pub loop-k-preserved : goal.loop-k-preserved
loop-k-preserved c =
    let l = c.loop-k in
    let f = c.in_ok-found.ensures in
    (simp length-set l.invariant.0, λ _. f.within, rw (from_step c.args.group l.k l.numbers (drop l.next c.args.s.now) c.loop-k-test.true, f.says) at l.invariant.2)

pub returns : goal.returns
returns c =
    let l = c.loop-k in
    let is = sym l.invariant.2 ∙ from_end c.args.group l.k l.numbers (drop l.next c.args.s.now) c.loop-k-test.false in
    record { told = record { within = l.invariant.1 (omega arith); says = is }; no_more = l.invariant.0 }
