use Rattle.std.proofs.Common.{arith}
use Rattle.text.specs.Laws.Put.{measured}
use Rattle.radio.specs.Laws.Size.{record-size}
use Rattle.radio.proofs.Sendable.size.Goals as goal

pub returns : goal.returns
returns c = let s = c.args.self.now in measured c.put.ensures (omega (arith, record-size s.rows.now s.sendable))
