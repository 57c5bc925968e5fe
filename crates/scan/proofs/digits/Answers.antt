use Rattle.std.proofs.Common.{◌≡◌, ◌+◌, drop, sym, ap, ◌∙◌, arith, le-leb, ⊎_elim}
use Rattle.std.proofs.lemmas.Bool.{lt-leb}
use Rattle.text.specs.Read.{got}
use Rattle.text.specs.Laws.Held.{reached-length, missed, part-at}
use Rattle.scan.proofs.Steps.{no-digits, digits-short, stop-low, stop-high, one_more, digits-fit}
use Rattle.scan.proofs.digits.Goals as goal
use Rattle.scan.proofs.digits.Goals.{then-n-gt9-via-then-n-gt9, then-n-gt9-via-else-n-gt9+then-s-start}

pub returns-then-n-gt9 : goal.returns-then-n-gt9
returns-then-n-gt9 c =
    let a = c.args in
    elim c.then-n-gt9.branch [
      | then-n-gt9-via-then-n-gt9 w ↦ missed (rw (lt-leb a.n 9 w.if-n-gt9.true))
      | then-n-gt9-via-else-n-gt9+then-s-start w ↦
          missed (rw (le-leb a.n 9 w.if-n-gt9.false) (digits-short a.n (drop a.i a.s.now) (rw (reached-length c.place-start.ensures) w.if-s-start.true)))
    ]

pub loop-b-init : goal.loop-b-init
loop-b-init c =
    let p = c.place-start in
    let z : p.result + 0 ≡ p.result = omega arith in
    rw z (no-digits (drop c.args.i c.args.s.now) ∙ ap (got 0) (sym p.ensures.left))

pub overflow_mul-value : goal.overflow_mul-value
overflow_mul-value c =
    let l = c.loop-b in
    let a = c.args in
    let k = part-at a.s.now c.place-start.result a.n l.b-index c.loop-b-test.true in
    omega (arith, digits-fit l.b-index (drop a.i a.s.now) (omega (arith, k.1)) l.invariant)

pub returns-in_err-value : goal.returns-in_err-value
returns-in_err-value c =
    let l = c.loop-b in
    let a = c.args in
    let j = c.place-start.result in
    let m = drop a.i a.s.now in
    let k = part-at a.s.now j a.n l.b-index c.loop-b-test.true in
    rw c.from_residual.ensures (missed (rw (le-leb a.n 9 c.if-n-gt9.false) (⊎_elim
    (λ x. stop-low a.s.now m (j + l.b-index) l.b-index a.n l.value l.invariant k.1 k.2 (rw (← k.0) x))
    (λ x. stop-high a.s.now m (j + l.b-index) l.b-index a.n l.value l.invariant k.1 k.2 (rw (← k.0) x))
    c.in_err-value.ensures)))

pub overflow_add-value : goal.overflow_add-value
overflow_add-value c =
    let l = c.loop-b in
    let a = c.args in
    let k = part-at a.s.now c.place-start.result a.n l.b-index c.loop-b-test.true in
    let d = c.in_ok-value.ensures in
    omega (arith, digits-fit l.b-index (drop a.i a.s.now) (omega (arith, k.1)) l.invariant, d.1, d.2)

pub loop-b-preserved : goal.loop-b-preserved
loop-b-preserved c =
    let l = c.loop-b in
    let a = c.args in
    let j = c.place-start.result in
    let k = part-at a.s.now j a.n l.b-index c.loop-b-test.true in
    let d = c.in_ok-value.ensures in
    let z : j + (l.b-index + 1) ≡ j + l.b-index + 1 = omega arith in
    rw (z, d.2) (one_more a.s.now (drop a.i a.s.now) (j + l.b-index) l.b-index a.n l.value l.invariant k.1 _ k.0 k.2 d.0 d.1)
