use Rattle.std.proofs.Common.{◌+◌, arith}
use Rattle.text.specs.Laws.Put.{told-min}
use Rattle.fill.proofs.told_behind.Goals as goal

pub returns : goal.returns
returns c = let a = c.args in omega (arith, told-min a.out.now (a.at + a.n))
