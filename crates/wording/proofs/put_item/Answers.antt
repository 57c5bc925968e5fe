use Rattle.text.specs.Laws.Put.{more}
use Rattle.wording.proofs.Writing.{item-bytes}
use Rattle.wording.proofs.put_item.Goals as goal

pub returns : goal.returns
returns c = rw item-bytes (more c.put_text-at.ensures c.put.ensures)
