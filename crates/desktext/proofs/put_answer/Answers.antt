use Rattle.text.specs.Laws.Put.{more}
use Rattle.desktext.specs.Desk.{answer_line}
use Rattle.desktext.proofs.put_answer.Goals as goal

pub returns : goal.returns
unfolding answer_line
returns c = more c.put_number-at.ensures c.put.ensures
