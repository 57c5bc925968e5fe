use Rattle.std.proofs.Common.{rules, tests}
use Rattle.surface.specs.Laws.Table3.{by-figure}
use Rattle.due.specs.Third.{is_significant}
use Rattle.due.proofs.is_significant.Goals as goal

pub returns : goal.returns
unfolding is_significant
returns c =
    by-figure (λ l. l.2) c.args.description c.args.difference _ _ c.line_of-line.ensures c.is_some_and.ensures (λ l q. search (rules, tests))
