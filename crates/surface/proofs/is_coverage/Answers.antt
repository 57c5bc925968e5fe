use native.Mathlib.Omega.{arith}
use Rattle.surface.specs.Third.{is_coverage}
use Rattle.surface.proofs.is_coverage.Goals as goal

pub returns-in-25 : goal.returns-in-25
unfolding is_coverage
returns-in-25 c = grind arith

pub returns-in_default : goal.returns-in_default
unfolding is_coverage
returns-in_default c = grind arith
