use native.Mathlib.Omega.{arith}
use Rattle.surface.specs.Assess.{coverage_for}
use Rattle.surface.proofs.coverage_for.Goals as goal

pub returns-in-0-to-25 : goal.returns-in-0-to-25
unfolding coverage_for
returns-in-0-to-25 c = grind arith

pub returns-in-26-to-50 : goal.returns-in-26-to-50
unfolding coverage_for
returns-in-26-to-50 c = grind arith

pub returns-in-51-to-75 : goal.returns-in-51-to-75
unfolding coverage_for
returns-in-51-to-75 c = grind arith

pub returns-in_default : goal.returns-in_default
unfolding coverage_for
returns-in_default c = grind arith
