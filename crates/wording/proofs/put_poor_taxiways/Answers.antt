use Rattle.std.proofs.Common.{ne_eqb}
use Rattle.text.specs.Piece.{spell}
use Rattle.wording.proofs.put_poor_taxiways.Goals as goal

pub returns-then-i-eq0 : goal.returns-then-i-eq0
unfolding spell
returns-then-i-eq0 c = rw c.if-i-eq0.true c.put.ensures

pub returns-else-i-eq0 : goal.returns-else-i-eq0
returns-else-i-eq0 c = rw (ne_eqb c.args.i.count 0 c.if-i-eq0.false) c.put_of_taxiways.ensures
