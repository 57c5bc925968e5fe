use Rattle.std.proofs.Common.{ap, ◌∙◌, is_some}
use Rattle.surface.specs.Laws.Table3.{deep_is}
use Rattle.surface.proofs.is_deep.Goals as goal

pub returns : goal.returns
returns c = c.is_some.ensures ∙ (ap is_some c.line_of.ensures ∙ deep_is c.args.kind)
