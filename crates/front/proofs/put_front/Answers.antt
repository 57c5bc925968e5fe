use Rattle.std.proofs.Common.{rules}
use Rattle.text.specs.Piece.{canonical}
use Rattle.text.specs.Laws.Put.{more}
use Rattle.frontlines.specs.Filing.{filing_pieces}
use Rattle.frontlines.specs.Heading.{heading_pieces, serial_pieces, aerodrome_pieces}
use Rattle.front.proofs.put_front.Goals as goal

pub returns : goal.returns
returns c =
    let a = c.args in
    more c.put_addresses-at.ensures
    (more (c.line_under-at.ensures (canonical (filing_pieces a.filing)) (search rules))
    (more (c.line_under-at-2.ensures (canonical (heading_pieces (record { title = a.title; time = a.time }))) (search rules))
    (more (c.line_under-at-3.ensures (canonical (serial_pieces a.title.serial)) (search rules))
    (c.line_under.ensures (canonical (aerodrome_pieces a.title.aerodrome)) (search rules)))))
