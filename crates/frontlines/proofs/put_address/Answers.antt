use Rattle.std.proofs.Common.{◌*◌, take, drop, arith}
use Rattle.text.specs.Laws.Put.{more}
use Rattle.frontlines.proofs.Writes.{address-text, slot-within}
use Rattle.frontlines.proofs.put_address.Goals as goal

pub returns : goal.returns
returns c =
    let a = c.args in
    rw (address-text (take 8 (drop (a.i * 8) a.letters.now)), slot-within a.letters.now (a.i * 8) c.min-start.result c.min-end.result (omega (arith, c.min-start.ensures, c.from.ensures)) c.min-end.ensures) (more c.put-at.ensures c.put.ensures)
