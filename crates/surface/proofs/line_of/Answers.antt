use Rattle.std.proofs.Common.{rules, tests, ◌∙◌, nat_eq}
use Rattle.std.proofs.lemmas.Iterator.{YieldsList-from_slice}
use Rattle.std.proofs.lemmas.Iterator.Search.{find_from_yields_List}
use Rattle.surface.specs.Descriptions.{table3}
use Rattle.surface.proofs.line_of.Goals as goal

pub returns : goal.returns
returns c =
    c.copied.ensures
    ∙ find_from_yields_List (λ l. nat_eq l.0 c.args.kind) _ _ _ c.find.ensures.ran (YieldsList-from_slice table3 cc) (λ x b q k. search (rules, tests))
