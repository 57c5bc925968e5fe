use Rattle.std.proofs.Common.{arith}
use Rattle.text.specs.Choice.{◌and◌}
use Rattle.surface.specs.Assess.{is_kind, in_range}
use Rattle.surface.proofs.SurfaceTryFromObservation.try_from.Goals as goal

pub overflow_cast-result : goal.overflow_cast-result
unfolding in_range is_kind ◌and◌
overflow_cast-result c = grind arith

pub overflow_cast-result-2 : goal.overflow_cast-result-2
unfolding in_range ◌and◌
overflow_cast-result-2 c = grind arith

pub overflow_cast-result-3 : goal.overflow_cast-result-3
unfolding in_range ◌and◌
overflow_cast-result-3 c = grind arith
