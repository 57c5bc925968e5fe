use Rattle.std.proofs.Common.{arith}
use Rattle.radio.proofs.Fields.{runway-fits, depth-fits}
use Rattle.radio.proofs.filled.Goals as goal

pub overflow_cast-row : goal.overflow_cast-row
overflow_cast-row c = omega (arith, runway-fits _ _ c.requires.0 c.in-Runway.is)

pub overflow_cast-row-in-Depth : goal.overflow_cast-row-in-Depth
overflow_cast-row-in-Depth c = omega (arith, depth-fits _ _ c.requires.0 _ c.in-Depth.is)
