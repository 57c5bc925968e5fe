use Rattle.items.specs.Laws.Language.{verbatim-bytes}
use Rattle.items.proofs.put_language.Goals as goal

pub returns : goal.returns
returns c = rw verbatim-bytes c.put.ensures
