use Rattle.std.proofs.Common.{ap, drop_of_length-le}
use Rattle.std.proofs.Math.Seq.{drop-cons}
use Rattle.text.specs.Laws.Held.{missed}
use Rattle.text.specs.Read.{whole}
use Rattle.frontlines.proofs.Lines.{serial-off, serial-on}
use Rattle.frontlines.proofs.read_serial.Goals as goal

pub returns-in_err-word : goal.returns-in_err-word
returns-in_err-word c = rw c.from_residual.ensures (missed (ap whole (serial-off c.args.line.now c.in_err-word.ensures)))

pub returns-in_err-serial : goal.returns-in_err-serial
returns-in_err-serial c =
    rw c.from_residual-in_err-serial.ensures (missed (rw (serial-on c.args.line.now c.in_ok-word.ensures, c.in_err-serial.ensures.says)))

pub returns-then-serial-line : goal.returns-then-serial-line
returns-then-serial-line c =
    let m = c.args.line.now in
    let n = c.in_ok-serial in
    missed (rw (serial-on m c.in_ok-word.ensures, n.ensures.says, drop-cons m n.serial.next 0 c.if-serial-line.true))

pub returns : goal.returns
returns c =
    let m = c.args.line.now in
    let n = c.in_ok-serial in
    record { within = n.ensures.within; says = rw (serial-on m c.in_ok-word.ensures, n.ensures.says, drop_of_length-le m {i = n.serial.next} c.if-serial-line.false) }
