use Rattle.std.proofs.Common.{sym}
use Rattle.frontlines.proofs.Lines.{no-region, region}
use Rattle.frontlines.proofs.designator.Goals as goal

pub returns-then-counted : goal.returns-then-counted
returns-then-counted c = region c.args.s.now c.in_ok-word.ensures (sym c.if-counted.ensures) c.serial.result c.serial.ensures

pub returns-else-counted : goal.returns-else-counted
returns-else-counted c = no-region c.args.s.now c.in_ok-word.ensures (sym c.if-counted.ensures)
