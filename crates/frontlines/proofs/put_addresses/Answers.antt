use Rattle.std.proofs.Common.{◌≡◌, arith}
use Rattle.text.specs.Laws.Put.{more, canonical-append}
use Rattle.text.specs.Piece.{spell, lay_all}
use Rattle.text.specs.Arrays.{slots}
use Rattle.frontlines.specs.Addresses.{priority_name, address_pieces, addresses_pieces}
use Rattle.frontlines.proofs.Writes.{address_more, stays}
use Rattle.frontlines.proofs.put_addresses.Goals as goal

pub loop-i-init : goal.loop-i-init
unfolding slots
loop-i-init c = stays c.put_priority-at.ensures

pub loop-i-preserved : goal.loop-i-preserved
loop-i-preserved c = rw (address_more c.args.a.letters c.loop-i.i) (more c.loop-i.invariant c.put_address-at.ensures)

pub returns : goal.returns
unfolding addresses_pieces
returns c =
    let a = c.args.a in
    let z : c.loop-i.i ≡ a.count = omega arith in
    rw (canonical-append (spell (priority_name a.priority)) (lay_all address_pieces (slots 8 a.count a.letters))) (more c.put_priority-at.ensures (rw z at c.loop-i.invariant))
