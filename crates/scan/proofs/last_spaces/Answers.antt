use Rattle.std.proofs.Common.{rules, sym, ◌∙◌, drop}
use Rattle.text.specs.Names.{is_space}
use Rattle.scan.proofs.Steps.{skip-past}
use Rattle.scan.proofs.last_spaces.Goals as goal

pub returns : goal.returns
returns c =
    let r = c.past.ensures is_space (λ b r h. search rules) in
    record { within = r.within; left = r.left ∙ sym (skip-past (drop c.args.i c.args.s.now)) }
