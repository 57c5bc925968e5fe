use Rattle.std.proofs.Common.{arith}
use Rattle.text.specs.Laws.Iter.{same-pointwise}
use Rattle.scan.proofs.same_bytes.Goals as goal

pub returns : goal.returns
returns c = grind (arith, same-pointwise)
