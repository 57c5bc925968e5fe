use native.Mathlib.Omega.{arith}
use Rattle.surface.specs.Assess.{assessing}
use Rattle.surface.proofs.reported.Goals as goal

pub returns-in_err-s : goal.returns-in_err-s
unfolding assessing
returns-in_err-s c = grind arith

pub returns-then-contradictory : goal.returns-then-contradictory
unfolding assessing
returns-then-contradictory c = grind arith

pub returns : goal.returns
unfolding assessing
returns c = grind arith
