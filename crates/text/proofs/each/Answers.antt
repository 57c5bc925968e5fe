use Rattle.std.proofs.Common.{◌∙◌, sym, ap, take}
use Rattle.text.specs.Choice.{◌and◌, all}
use Rattle.text.specs.Laws.Base.{and_none, and-true}
use Rattle.text.specs.Laws.Passed.{all_more}
use Rattle.text.proofs.each.Goals as goal
use Rattle.text.proofs.each.Goals.{then-not-test, else-not-test}

pub loop-b-preserved : goal.loop-b-preserved
loop-b-preserved g c p t =
    let l = c.loop-b in
    let so_far = all p (take l.b-index c.args.s.now) in
    let e = all_more p c.args.s.now l.b-index c.loop-b-test.true in
    let q = t _ _ c.test.ensures in
    elim c.if-not-test.branch [
      | then-not-test w ↦ w.passes-is ∙ sym (e ∙ and_none so_far (sym q ∙ w.if-not-test.true))
      | else-not-test w ↦ w.passes-is ∙ l.invariant p t ∙ sym (e ∙ ap (λ b. so_far and b) (sym q ∙ w.if-not-test.false) ∙ and-true so_far)
    ]
