use Rattle.std.proofs.Common.{◌∙◌, ap}
use Rattle.std.specs.Option.{is_some}
use Rattle.board.specs.Laws.Aerodrome.{aerodrome-fits}
use Rattle.board.proofs.is_aerodrome.Goals as goal

pub returns : goal.returns
returns c = c.is_some.ensures ∙ ap is_some c.read_aerodrome.ensures ∙ aerodrome-fits c.args.a
