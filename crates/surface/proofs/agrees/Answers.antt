use native.Mathlib.Omega.{arith}
use Rattle.surface.specs.Table1.{agrees}
use Rattle.surface.proofs.agrees.Goals as goal

pub returns-then-t-eq-NR : goal.returns-then-t-eq-NR
unfolding agrees
returns-then-t-eq-NR c = grind arith

pub returns-else-t-eq-NR : goal.returns-else-t-eq-NR
unfolding agrees
returns-else-t-eq-NR c = grind arith
