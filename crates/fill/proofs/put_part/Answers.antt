use native.Mathlib.Omega.{arith}
use mathlib.Core.Path.{sym, ◌∙◌}
use Prim.Native.Nat.{◌-◌}
use lib.ListN.{length}
use lib.Seq.{length-take-le}
use Rattle.text.specs.Laws.Put.{sets-out}
use Rattle.fill.proofs.Steps.{put-part}
use borrow.Author.Rules.{rules}
use Rattle.fill.proofs.put_part.Goals as goal

pub slice_bounds-store_whole-end : goal.slice_bounds-store_whole-end
slice_bounds-store_whole-end c = let a = c.args in sym (length-take-le (length a.out.now - a.at) a.t.now (omega arith))

pub store_whole-requires : goal.store_whole-requires
store_whole-requires c = let a = c.args in let z = length-take-le (length a.out.now - a.at) a.t.now (omega arith) in omega arith

pub returns-then-at-out : goal.returns-then-at-out
returns-then-at-out c =
    let a = c.args in
    record { place = search rules; holds = c.store_whole.ensures ∙ put-part a.out.now a.at a.t.now (length a.out.now - a.at) (omega arith) (omega arith) }

pub returns-else-at-out : goal.returns-else-at-out
returns-else-at-out c = let a = c.args in record { place = search rules; holds = sym (sets-out a.out.now a.at a.t.now (omega arith)) }
