use native.Mathlib.Omega.{arith}
use mathlib.Core.Path.{sym}
use Rattle.text.specs.Laws.Put.{told-near}
use borrow.Author.Rules.{rules}
use Rattle.fill.proofs.put.Goals as goal
use Rattle.fill.proofs.put.Goals.{else-at-out-via-then-at-out+else-t-out, else-at-out-via-else-at-out}

pub returns-then-t-out : goal.returns-then-t-out
returns-then-t-out c = let a = c.args in record { place = sym (told-near a.out.now (omega arith)); holds = search rules }

pub put_part-requires : goal.put_part-requires
put_part-requires c = elim c.else-at-out.branch [ else-at-out-via-then-at-out+else-t-out w ↦ omega arith | else-at-out-via-else-at-out w ↦ omega arith ]
