use Rattle.std.proofs.Common.{rules, tests}
use Rattle.surface.specs.Third.{least_depth, is_reported}
use Rattle.surface.specs.Laws.Table3.{by-figure}
use Rattle.surface.proofs.is_reported.Goals as goal

pub returns : goal.returns
unfolding is_reported least_depth
returns c =
    by-figure (λ l. l.1) c.args.description c.args.depth _ _ c.line_of.ensures c.is_some_and.ensures (λ l q. search (rules, tests))
