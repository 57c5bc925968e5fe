use Rattle.std.proofs.Common.{refl, arith}
use borrow.Author.Tests.{ne_eqb}
use Rattle.items.specs.Item.{letter_i, letter_m}
use Rattle.items.specs.ReadItem.{read_detail, read_neither}
use Rattle.awareness.proofs.read_detail.Goals as goal

pub returns-in-73 : goal.returns-in-73
unfolding read_detail
returns-in-73 c = rw c.in-73.is c.read_length.ensures

pub returns-in-77 : goal.returns-in-77
unfolding read_detail
returns-in-77 c = rw c.in-77.is c.read_bank.ensures

pub returns-in_default : goal.returns-in_default
unfolding read_detail read_neither
returns-in_default c =
    let l = c.args.letter in
    rw (ne_eqb l letter_i (omega arith), ne_eqb l letter_m (omega arith)) (record { within = c.requires; says = refl })
