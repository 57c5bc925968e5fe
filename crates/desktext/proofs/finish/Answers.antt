use Rattle.text.specs.Laws.Put.{more}
use Rattle.desktext.specs.Pieces.{finish_text}
use Rattle.desktext.proofs.finish.Goals as goal

pub returns : goal.returns
unfolding finish_text
returns c = let t = c.take_last-turn in rw (← t.ensures.standing_value) (more t.ensures.put c.put_end.ensures)
