use Rattle.row.specs.Row.{valid_row}
use Rattle.text.specs.Laws.Base.{and-1}
use Rattle.radio.proofs.number_of.Goals as goal

pub minutes_of-requires : goal.minutes_of-requires
unfolding valid_row
minutes_of-requires c = and-1 _ _ c.requires.0
