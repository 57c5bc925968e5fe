use Rattle.std.proofs.Common.{arith}
use Rattle.radio.proofs.Numbers.{one-group, two-groups, three-groups, zero-second, zero-third, no_last, cut-at}
use Rattle.radio.proofs.read_number.Goals as goal

pub returns-in-len1-up : goal.returns-in-len1-up
returns-in-len1-up c = one-group c.args.s.now c.in-len1-up.len_at_least c.if-a-lt-MORE.true c.from.ensures

pub returns-in-len2-up : goal.returns-in-len2-up
returns-in-len2-up c = zero-second c.args.s.now c.in-len2-up.len_at_least c.if-a-lt-MORE.false c.if-b-eq0.true

pub returns-in-len2-up-2 : goal.returns-in-len2-up-2
returns-in-len2-up-2 c = two-groups c.args.s.now (omega arith) c.if-a-lt-MORE.false (omega arith) c.if-b-lt-MORE.true (omega arith)

pub returns-in-len3-up : goal.returns-in-len3-up
returns-in-len3-up c = zero-third c.args.s.now c.in-len3-up.len_at_least c.if-a-lt-MORE.false c.if-b-lt-MORE.false c.if-c-eq0.true

pub returns-in-len3-up-2 : goal.returns-in-len3-up-2
returns-in-len3-up-2 c = three-groups c.args.s.now (omega arith) c.if-a-lt-MORE.false c.if-b-lt-MORE.false (omega arith) c.if-c-lt-MORE.true (omega arith)

pub returns-in-len3-up-3 : goal.returns-in-len3-up-3
returns-in-len3-up-3 c = no_last c.args.s.now (omega arith) c.if-a-lt-MORE.false c.if-b-lt-MORE.false c.if-c-lt-MORE.false

pub returns-in_default : goal.returns-in_default
returns-in_default c = cut-at c.args.s.now (omega arith) (λ h. omega arith) (λ h. omega arith)

pub returns-in_default-2 : goal.returns-in_default-2
returns-in_default-2 c = cut-at c.args.s.now (omega arith) (λ h. omega arith) (λ h. omega arith)

pub returns-in_default-4 : goal.returns-in_default-4
returns-in_default-4 c = cut-at c.args.s.now (omega arith) (λ h. omega arith) (λ h. omega arith)
