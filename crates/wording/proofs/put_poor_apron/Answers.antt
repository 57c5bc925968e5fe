use Rattle.std.proofs.Common.{sym}
use Rattle.text.specs.Names.{is_name, run}
use Rattle.text.specs.Piece.{spell}
use Rattle.text.specs.Laws.Put.{more}
use Rattle.wording.proofs.Writing.{named-apron}
use Rattle.wording.proofs.put_poor_apron.Goals as goal

pub returns-then-is_named : goal.returns-then-is_named
returns-then-is_named c =
    rw (sym c.if-is_named.ensures, named-apron (run is_name c.args.i.name))
    (more c.put-at.ensures (more c.put-at-then-is_named.ensures (more c.put_name-at.ensures (more c.put-at-then-is_named-2.ensures c.put.ensures))))

pub returns-else-is_named : goal.returns-else-is_named
unfolding spell
returns-else-is_named c = rw (sym c.if-is_named.ensures) c.put-else-is_named.ensures
