use Rattle.std.proofs.Common.{ne_eqb}
use Rattle.text.specs.Laws.Put.{more}
use Rattle.rowtext.specs.Text.{width_pieces}
use Rattle.rowtext.proofs.put_width.Goals as goal

pub returns : goal.returns
unfolding width_pieces
returns c = rw (ne_eqb _ 0 c.if-width-eq0.false) (more c.put-at.ensures (rw c.from.ensures at c.put_digits.ensures))
