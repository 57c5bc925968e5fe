use Rattle.std.proofs.Common.{arith}
use Rattle.text.specs.Choice.{◌and◌}
use Rattle.frontlines.proofs.Groups.{slots-fit, slots-past}
use Rattle.frontlines.proofs.holds_addresses.Goals as goal

pub returns-then-counted : goal.returns-then-counted
unfolding ◌and◌
returns-then-counted c = let f = c.args.letters.now in let n = c.args.count in rw (← slots-fit 8 n f, ← slots-past 8 n f) (grind arith)

pub returns-else-counted : goal.returns-else-counted
unfolding ◌and◌
returns-else-counted c = let f = c.args.letters.now in let n = c.args.count in rw (← slots-fit 8 n f, ← slots-past 8 n f) (grind arith)
