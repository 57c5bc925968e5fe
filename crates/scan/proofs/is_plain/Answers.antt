use Rattle.std.proofs.Common.{◌≡◌, sym, ◌∙◌, arith}
use Rattle.text.specs.Names.{is_mark, is_letter}
use Rattle.scan.proofs.Steps.{below-marks, marks-and-digits, behind-marks}
use Rattle.scan.proofs.is_plain.Goals as goal

pub returns-in_default : goal.returns-in_default
returns-in_default c = sym (below-marks c.args.c (λ e. omega arith) (omega arith))

pub returns-in_default-2 : goal.returns-in_default-2
returns-in_default-2 c = sym (behind-marks c.args.c (omega arith) ∙ grind (arith, is_letter))

pub returns-in_default-3 : goal.returns-in_default-3
returns-in_default-3 c = sym (behind-marks c.args.c (omega arith) ∙ grind (arith, is_letter))

pub returns-in-32 : goal.returns-in-32
unfolding is_mark
returns-in-32 c = let e : c.args.c ≡ 32 = omega arith in rw e

pub returns-in-32-2 : goal.returns-in-32-2
returns-in-32-2 c = sym (marks-and-digits c.args.c (omega arith) (omega arith))
