use Rattle.std.proofs.Common.{arith}
use Rattle.text.specs.Choice.{◌and◌}
use Rattle.items.proofs.Plain.{head-starts, last-ends}
use Rattle.items.proofs.is_sentence.Goals as goal

pub returns-then-not-starts_with : goal.returns-then-not-starts_with
unfolding ◌and◌
returns-then-not-starts_with c = grind (arith, head-starts 32 c.args.part.now, last-ends 46 c.args.part.now)

pub returns-else-not-starts_with : goal.returns-else-not-starts_with
unfolding ◌and◌
returns-else-not-starts_with c = grind (arith, head-starts 32 c.args.part.now, last-ends 46 c.args.part.now)
