use Rattle.std.proofs.Common.{rules}
use Rattle.rowtext.proofs.Steps.{width-or}
use Rattle.rowtext.proofs.width.Goals as goal

pub returns : goal.returns
returns c = rw c.unwrap_or.ensures (width-or c.args.s.now c.args.i c.filter.result c.requires (search rules))
