-- The invariant: the first i addresses stand behind the priority.
use Rattle.text.specs.Piece.{lay_all, canonical}
use Rattle.text.specs.Arrays.{slots}
use Rattle.text.specs.Put.{Put}
use Rattle.frontlines.specs.Addresses.{address_pieces}
use Rattle.frontlines.proofs.put_addresses.Given as goal

abbrev pub invariant-loop-i : goal.invariant-loop-i
invariant-loop-i l = Put l.initial.at (canonical (lay_all address_pieces (slots 8 l.i l.a.letters))) l.initial.rest l.rest l.at
