use Prim.Native.Nat.{ℕ, suc, ◌+◌, ◌≤◌}
use mathlib.Core.Path.{◌≡◌, refl, ◌∙◌, ap}
use native.Mathlib.Omega.{arith}
use native.Mathlib.Numerals.{add-one}
use lib.ListN.{length}
use borrow.Author.Rules.{rules}
use Rattle.text.specs.Lines.{lines_size}
use Rattle.text.specs.Laws.Lines.{lines_more}
use Rattle.text.proofs.lines_size.Goals as goal

-- the line that was found, behind those before it
more : (c : goal.After-struct_known-1)
    → (let l = c.loop-k in
    let m = c.args.m.now in
    let n = c.first_line-at.result.next in
    (l.at + n ≤ length m) × (l.at + n ≡ lines_size (suc l.k) m))
more c =
    let l = c.loop-k in
    lines_more l.k c.args.m.now l.at l.invariant.0 l.invariant.1 c.first_line-at.ensures

pub loop-k-init : goal.loop-k-init
unfolding lines_size
loop-k-init c = (search rules, refl)

pub overflow_add-at : goal.overflow_add-at
overflow_add-at c = omega (arith, (more c).0)

pub loop-k-preserved : goal.loop-k-preserved
loop-k-preserved c = ((more c).0, rw add-one (more c).1)

pub returns : goal.returns
returns c =
    let l = c.loop-k in
    l.invariant.1 ∙ ap (λ (k : ℕ). lines_size k c.args.m.now) (omega arith)
