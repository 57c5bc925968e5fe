use native.Mathlib.Omega.{arith}
use Rattle.text.specs.Choice.{◌and◌}
use Rattle.surface.specs.Assess.{deep_wet}
use Rattle.surface.proofs.deep_wet.Goals as goal

pub returns-then-s-eq-WET : goal.returns-then-s-eq-WET
unfolding deep_wet ◌and◌
returns-then-s-eq-WET c = grind arith

pub returns-else-s-eq-WET : goal.returns-else-s-eq-WET
unfolding deep_wet ◌and◌
returns-else-s-eq-WET c = grind arith
