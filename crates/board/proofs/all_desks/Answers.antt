use Rattle.std.proofs.Common.{rules}
use Rattle.std.proofs.lemmas.Iterator.{YieldsList-from_slice}
use Rattle.std.proofs.lemmas.Iterator.Search.{all_from_yields_List}
use Rattle.board.specs.Board.{is_desk}
use Rattle.text.specs.Laws.Iter.{all_answer}
use Rattle.board.proofs.all_desks.Goals as goal

pub returns : goal.returns
returns c = all_answer is_desk _ (all_from_yields_List is_desk _ _ _ c.all.ensures.ran (YieldsList-from_slice _ cc) (λ x b q k. search rules))
