use Rattle.text.specs.Laws.Put.{more}
use Rattle.frontlines.proofs.Writes.{serial-text}
use Rattle.frontlines.proofs.put_serial.Goals as goal

pub returns : goal.returns
returns c =
    rw (serial-text c.args.serial) (more c.put-at.ensures (rw c.from.ensures at c.put_digits.ensures))
