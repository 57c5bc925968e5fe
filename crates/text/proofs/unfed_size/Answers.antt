use native.Mathlib.Omega.{arith}
use mathlib.Core.Path.{refl, sym, ◌∙◌}
use borrow.Author.Rules.{rules}
use Rattle.text.specs.Code.Held.{is_unfed}
use Rattle.text.specs.Laws.Passed.{past-block}
use Rattle.text.proofs.unfed_size.Goals as goal

pub loop-i-init : goal.loop-i-init
loop-i-init c = (search rules, refl)

pub loop-i-smaller : goal.loop-i-smaller
loop-i-smaller c = let l = c.loop-i in let g = past-block is_unfed c.args.m.now l.i 16 l.invariant.0 l.invariant.1 (sym (c.block_passes.ensures is_unfed (λ b r h. search rules)) ∙ c.loop-i-test.true) in omega (arith, g.0)

pub loop-i-preserved : goal.loop-i-preserved
loop-i-preserved c = let l = c.loop-i in past-block is_unfed c.args.m.now l.i 16 l.invariant.0 l.invariant.1 (sym (c.block_passes.ensures is_unfed (λ b r h. search rules)) ∙ c.loop-i-test.true)

pub returns : goal.returns
returns c =
    let r = c.past.ensures is_unfed (λ b r h. search rules) in
    record { within = r.within; left = r.left ∙ c.loop-i.invariant.1 }
