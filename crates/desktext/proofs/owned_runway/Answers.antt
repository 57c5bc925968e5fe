use Rattle.std.proofs.Common.{arith, drop}
use Rattle.desktext.proofs.Runways.{no-space, no-runway, no-slash, no-owner, owned, owner-low}
use Rattle.desktext.proofs.owned_runway.Goals as goal

pub returns-in_err-at : goal.returns-in_err-at
returns-in_err-at c =
    let a = c.args in
    rw c.from_residual.ensures record { within = omega arith; says = no-space a.s.now a.i c.in_err-at.ensures.says }

pub returns-in_err-w : goal.returns-in_err-w
returns-in_err-w c =
    let a = c.args in
    let p = c.in_ok-at in
    rw c.from_residual-in_err-w.ensures record { within = omega arith; says = no-runway a.s.now a.i p.at p.ensures.says c.in_err-w.ensures.says }

pub returns-in_err-slash : goal.returns-in_err-slash
returns-in_err-slash c =
    let a = c.args in
    let p = c.in_ok-at in
    let w = c.in_ok-w in
    rw c.from_residual-in_err-slash.ensures
    record { within = omega arith; says = no-slash a.s.now a.i p.at p.ensures.says w.w w.ensures.says c.in_err-slash.ensures }

pub returns-in_err-owner : goal.returns-in_err-owner
returns-in_err-owner c =
    let a = c.args in
    let p = c.in_ok-at in
    let w = c.in_ok-w in
    rw c.from_residual-in_err-owner.ensures
    record { within = omega arith; says = no-owner a.s.now a.i p.at p.ensures.says w.w w.ensures.says c.in_ok-slash.ensures c.in_err-owner.ensures.says }

pub overflow_cast-result : goal.overflow_cast-result
overflow_cast-result c = omega (arith, owner-low (drop c.in_ok-slash.slash.next c.args.s.now) c.in_ok-owner.ensures.says)

pub returns : goal.returns
returns c =
    let a = c.args in
    let p = c.in_ok-at in
    let w = c.in_ok-w in
    let o = c.in_ok-owner.ensures in
    record { within = o.within; says = owned a.s.now a.i p.at p.ensures.says w.w w.ensures.says c.in_ok-slash.ensures o.says }
