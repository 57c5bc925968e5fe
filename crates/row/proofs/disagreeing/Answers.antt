use Rattle.std.proofs.Common.{arith}
use Rattle.row.specs.Agreement.{agreement}
use Rattle.row.proofs.disagreeing.Goals as goal

pub returns-then-not-valid_row : goal.returns-then-not-valid_row
unfolding agreement
returns-then-not-valid_row c = grind arith

pub returns : goal.returns
unfolding agreement
returns c = grind arith
