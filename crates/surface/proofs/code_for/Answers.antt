use Rattle.std.proofs.Common.{rules, tests}
use Rattle.std.proofs.lemmas.Iterator.{YieldsList-from_slice}
use Rattle.std.proofs.lemmas.Iterator.Search.{find_from_yields_List}
use Rattle.surface.specs.Table1.{table1, is_for, code}
use Rattle.surface.specs.declared.Entry.{Entry}
use Rattle.surface.specs.Code.{observed}
use Rattle.surface.proofs.Tables.{found}
use Rattle.surface.proofs.code_for.Goals as goal

pub returns : goal.returns
unfolding table1
returns c =
    let fits = λ (e : Entry). is_for e c.args.kind (observed c.args.s) in
    let first = find_from_yields_List fits _ _ c.find.result c.find.ensures.ran (YieldsList-from_slice table1 cc) (λ x b q k. search (rules, tests)) in
    found fits code 0 _ table1 _ _ first c.map_or.ensures (λ b q. search rules)
