use Rattle.fill.proofs.Steps.{digits_long}
use Rattle.fill.proofs.put_digits.Goals as goal

pub returns : goal.returns
returns c = record { place = rw (digits_long c.args.n c.args.x) c.told_behind-behind.ensures; holds = c.store_digits.ensures }
