use Rattle.std.proofs.Common.{rules}
use Rattle.std.proofs.lemmas.Iterator.{YieldsList-from_slice}
use Rattle.std.proofs.lemmas.Iterator.Search.{all_from_yields_List}
use Rattle.text.specs.Laws.Iter.{all_answer}
use Rattle.row.specs.Row.{is_blank_row}
use Rattle.body.proofs.all_blank.Goals as goal

pub returns : goal.returns
returns c = all_answer is_blank_row c.args.rows.now (all_from_yields_List is_blank_row _ _ _ c.all.ensures.ran (YieldsList-from_slice c.args.rows.now cc) (λ x b q k. search rules))
