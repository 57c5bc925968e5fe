use native.Mathlib.Omega.{arith}
use borrow.Author.Tests.{ne_eqb}
use Rattle.text.specs.Piece.{spell}
use Rattle.items.specs.ItemText.{item_text}
use Rattle.wording.proofs.put_text.Goals as goal

pub returns-in-73 : goal.returns-in-73
unfolding item_text
returns-in-73 c = rw c.in-73.is c.put_length.ensures

pub returns-in-74 : goal.returns-in-74
unfolding item_text spell
returns-in-74 c = rw c.in-74.is c.put.ensures

pub returns-in-75 : goal.returns-in-75
unfolding item_text
returns-in-75 c = rw c.in-75.is c.put_of_runway.ensures

pub returns-in-76 : goal.returns-in-76
unfolding item_text
returns-in-76 c = rw c.in-76.is c.put_of_runway-in-76.ensures

pub returns-in-77 : goal.returns-in-77
unfolding item_text
returns-in-77 c = rw c.in-77.is c.put_bank.ensures

pub returns-in-78 : goal.returns-in-78
unfolding item_text
returns-in-78 c = rw c.in-78.is c.put_of_taxiways.ensures

pub returns-in-79 : goal.returns-in-79
unfolding item_text
returns-in-79 c = rw c.in-79.is c.put_of_runway-in-79.ensures

pub returns-in-80 : goal.returns-in-80
unfolding item_text
returns-in-80 c = rw c.in-80.is c.put_poor_taxiways.ensures

pub returns-in_default : goal.returns-in_default
unfolding item_text
returns-in_default c =
    let l = c.args.i.letter in
    rw (ne_eqb l 73 (omega arith), ne_eqb l 74 (omega arith), ne_eqb l 75 (omega arith), ne_eqb l 76 (omega arith), ne_eqb l 77 (omega arith), ne_eqb l 78 (omega arith), ne_eqb l 79 (omega arith), ne_eqb l 80 (omega arith))
    c.put_poor_apron.ensures
