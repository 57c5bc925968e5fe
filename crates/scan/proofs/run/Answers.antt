use Rattle.std.proofs.Common.{rules}
use Rattle.text.specs.Names.{in_class}
use Rattle.scan.proofs.run.Goals as goal

pub returns : goal.returns
returns c = c.past.ensures (in_class c.args.class) (λ b r h. search rules)
