use Rattle.text.specs.Laws.Put.{more, canonical-append}
use Rattle.runway.proofs.put_runway.Goals as goal

pub returns : goal.returns
returns c = rw (canonical-append) (more (rw c.from.ensures at c.put_digits-at.ensures) c.put_side.ensures)
