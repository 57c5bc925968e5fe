use native.Mathlib.Omega.{arith}
use mathlib.Core.Path.{◌≡◌, ◌∙◌}
use lib.Seq.{take-length}
use lib.ListN.{length, length-set}
use Rattle.fill.proofs.Steps.{put_on}
use borrow.Author.Rules.{rules}
use Rattle.fill.proofs.store_whole.Goals as goal

pub loop-i-preserved : goal.loop-i-preserved
loop-i-preserved c = let l = c.loop-i in let a = c.args in (simp length-set l.invariant.0, put_on a.out.now a.at a.t.now l.i (search rules) l.out l.invariant.1)

pub returns : goal.returns
returns c = let l = c.loop-i in let t = c.args.t.now in let z : l.i ≡ length t = omega arith in l.invariant.1 ∙ rw (z, take-length)
