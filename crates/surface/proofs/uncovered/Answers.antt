use native.Mathlib.Omega.{arith}
use Rattle.surface.specs.Assess.{uncovered}
use Rattle.surface.proofs.uncovered.Goals as goal

pub returns-then-kind-eq-DRY : goal.returns-then-kind-eq-DRY
unfolding uncovered
returns-then-kind-eq-DRY c = grind arith

pub returns-else-kind-eq-DRY : goal.returns-else-kind-eq-DRY
unfolding uncovered
returns-else-kind-eq-DRY c = grind arith
