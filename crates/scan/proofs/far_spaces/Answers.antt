use Rattle.std.proofs.Common.{drop, length, sym, ap, ◌∙◌, arith, rules}
use Rattle.text.specs.Names.{past, run, is_space}
use Rattle.scan.proofs.Eights.{spaces-end, spaces-on, chunk-within, chunk-is}
use Rattle.text.specs.Laws.Passed.{past-block}
use Rattle.scan.proofs.Steps.{skip-past}
use Rattle.scan.proofs.far_spaces.Goals as goal

pub loop-j-init : goal.loop-j-init
loop-j-init c = (c.place-j.ensures.within, ap (past is_space) c.place-j.ensures.left)

pub loop-j-smaller : goal.loop-j-smaller
loop-j-smaller c = let l = c.loop-j in let a = c.args in let g = past-block is_space a.s.now l.j 16 l.invariant.0 l.invariant.1 (sym (c.block_passes.ensures is_space (λ b r h. search rules)) ∙ c.loop-j-test.true) in omega (arith, g.0)

pub loop-j-preserved : goal.loop-j-preserved
loop-j-preserved c = let l = c.loop-j in let a = c.args in past-block is_space a.s.now l.j 16 l.invariant.0 l.invariant.1 (sym (c.block_passes.ensures is_space (λ b r h. search rules)) ∙ c.loop-j-test.true)

pub overflow_add-result : goal.overflow_add-result
overflow_add-result c =
    let l = c.loop-bytes in
    let m = c.args.s.now in
    let h = c.in-Some.ensures.cases in
    omega (arith, (spaces-end m l.j (chunk-within m l.j _ h) (c.leading_spaces-n.ensures ∙ ap (λ b. length (run is_space b)) (chunk-is m l.j _ h)) c.if-n-lt8.true).within)

pub returns-then-n-lt8 : goal.returns-then-n-lt8
returns-then-n-lt8 c =
    let l = c.loop-bytes in
    let a = c.args in
    let m = a.s.now in
    let h = c.in-Some.ensures.cases in
    let r = spaces-end m l.j (chunk-within m l.j _ h) (c.leading_spaces-n.ensures ∙ ap (λ b. length (run is_space b)) (chunk-is m l.j _ h)) c.if-n-lt8.true in
    record { within = r.within; left = r.left ∙ l.invariant.1 ∙ sym (skip-past (drop a.i m)) }

pub loop-bytes-preserved : goal.loop-bytes-preserved
loop-bytes-preserved c =
    let l = c.loop-bytes in
    let m = c.args.s.now in
    let h = c.in-Some.ensures.cases in
    let w = chunk-within m l.j _ h in
    (search rules, spaces-on m l.j w (c.leading_spaces-n.ensures ∙ ap (λ b. length (run is_space b)) (chunk-is m l.j _ h)) c.if-n-lt8.false ∙ l.invariant.1)

pub returns : goal.returns
returns c =
    let l = c.loop-bytes in
    let a = c.args in
    record { within = c.last_spaces.ensures.within; left = c.last_spaces.ensures.left ∙ skip-past (drop l.j a.s.now) ∙ l.invariant.1 ∙ sym (skip-past (drop a.i a.s.now)) }
