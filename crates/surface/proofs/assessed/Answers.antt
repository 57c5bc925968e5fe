use native.Mathlib.Omega.{arith}
use Rattle.surface.specs.Assess.{assessed}
use Rattle.surface.proofs.assessed.Goals as goal

pub returns-then-s-lt-LEAST_COVER : goal.returns-then-s-lt-LEAST_COVER
unfolding assessed
returns-then-s-lt-LEAST_COVER c = grind arith

pub returns : goal.returns
unfolding assessed
returns c = grind arith
