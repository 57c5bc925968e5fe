use Rattle.std.proofs.Common.{rules}
use Rattle.std.proofs.lemmas.Iterator.{YieldsList-from_slice}
use Rattle.std.proofs.lemmas.Iterator.Search.{all_from_yields_List}
use Rattle.text.specs.Laws.Iter.{all_answer}
use Rattle.row.specs.Row.{valid_row}
use Rattle.body.proofs.all_valid.Goals as goal

pub returns : goal.returns
returns c = all_answer valid_row _ (all_from_yields_List valid_row _ _ _ c.all.ensures.ran (YieldsList-from_slice _ cc) (λ x b q k. search rules))
