use native.Mathlib.Omega.{arith}
use Rattle.text.specs.Piece.{spell}
use Rattle.wording.proofs.Writing.{no_edge}
use Rattle.wording.proofs.put_edge.Goals as goal

pub returns-in-1 : goal.returns-in-1
unfolding spell
returns-in-1 c = rw c.in-1.is c.put.ensures

pub returns-in-2 : goal.returns-in-2
unfolding spell
returns-in-2 c = rw c.in-2.is c.put-in-2.ensures

pub returns-in-3 : goal.returns-in-3
unfolding spell
returns-in-3 c = rw c.in-3.is c.put-in-3.ensures

pub returns-in_default : goal.returns-in_default
returns-in_default c = rw (no_edge c.args.edge (omega arith) (omega arith) (omega arith)) c.put-in_default.ensures
