use Rattle.std.proofs.Common.{arith}
use Rattle.std.proofs.lemmas.Int.{ints, to_z-of_z}
use Rattle.due.specs.Third.{rise, size}
use Rattle.due.proofs.difference.Goals as goal

pub returns-then-rise-lt0 : goal.returns-then-rise-lt0
unfolding rise size
returns-then-rise-lt0 c = grind (arith, ints, to_z-of_z)

pub returns-else-rise-lt0 : goal.returns-else-rise-lt0
unfolding rise size
returns-else-rise-lt0 c = grind (arith, ints, to_z-of_z)
