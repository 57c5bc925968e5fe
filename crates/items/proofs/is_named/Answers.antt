use mathlib.Core.Path.{◌∙◌}
use Rattle.text.specs.Names.{is_name, in_class}
use Rattle.text.specs.Laws.Runs.{one-counted}
use Rattle.items.proofs.is_named.Goals as goal

pub returns : goal.returns
unfolding in_class
returns c = c.counted.ensures ∙ one-counted is_name c.args.name.now
