use Rattle.text.proofs.Lines.{past_end}
use borrow.Author.Rules.{rules}
use Rattle.text.proofs.place.Goals as goal

pub returns-else-i-s : goal.returns-else-i-s
returns-else-i-s c = record { within = search rules; left = past_end c.args.i c.args.s.now (search rules) }
