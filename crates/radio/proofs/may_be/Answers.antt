use Rattle.std.proofs.Common.{arith}
use Rattle.std.proofs.lemmas.Bool.Decides.{nat_tests}
use Rattle.text.specs.Choice.{◌and◌}
use Rattle.radio.proofs.may_be.Goals as goal

pub returns-else-x-eq0 : goal.returns-else-x-eq0
unfolding ◌and◌
returns-else-x-eq0 c = grind (arith, nat_tests)
