use Rattle.std.proofs.Common.{sym}
use Rattle.frontlines.specs.Heading.{read_aerodrome}
use Rattle.frontlines.specs.Laws.Letters.{letters-long}
use Rattle.frontlines.proofs.Groups.{letters-whole}
use Rattle.frontlines.proofs.Lines.{array-is}
use Rattle.frontlines.proofs.read_aerodrome.Goals as goal

pub returns-then-is_letters : goal.returns-then-is_letters
unfolding read_aerodrome
returns-then-is_letters c =
    let m = c.args.line.now in
    let h = sym c.if-is_letters.ensures in
    rw (letters-whole 4 m, h, c.bytes.ensures, array-is 4 m (letters-long 4 m h))

pub returns-else-is_letters : goal.returns-else-is_letters
unfolding read_aerodrome
returns-else-is_letters c = rw (letters-whole 4 c.args.line.now, sym c.if-is_letters.ensures)
