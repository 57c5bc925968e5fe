use Rattle.std.proofs.Common.{rules, tests, ◌∙◌}
use Rattle.std.proofs.lemmas.Iterator.{YieldsList-from_slice}
use Rattle.std.proofs.lemmas.Iterator.Search.{any_from_yields_List}
use Rattle.surface.specs.Table1.{table1, allows}
use Rattle.surface.proofs.Tables.{any-fitting}
use Rattle.surface.proofs.is_allowed.Goals as goal

pub returns : goal.returns
unfolding table1
returns c =
    let t = c.args.t in
    any_from_yields_List (λ e. allows e t) _ _ _ c.any.ensures.ran (YieldsList-from_slice table1 cc) (λ x b q k. search (rules, tests))
    ∙ any-fitting (λ e. allows e t) table1
