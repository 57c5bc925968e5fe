use Rattle.std.proofs.Common.{rules}
use Rattle.text.specs.Names.{read_name}
use Rattle.text.specs.Laws.Base.{else-none}
use Rattle.frontlines.proofs.Groups.{or-held}
use Rattle.frontlines.proofs.priority.Goals as goal

pub returns : goal.returns
unfolding read_name
returns c = or-held _ c.word.result c.or_else.result c.word.ensures (rw (else-none _) (search rules))
