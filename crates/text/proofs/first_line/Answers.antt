use Rattle.std.proofs.Common.{rules, arith}
use Rattle.text.proofs.Lines.{line-unfed, line-returned, line-fed}
use Rattle.text.proofs.first_line.Goals as goal
use Rattle.text.proofs.first_line.Goals.{else-i-gt0-via-then-i-gt0+else-m-i-eq-CR, else-i-gt0-via-else-i-gt0}

pub returns-then-m-i : goal.returns-then-m-i
returns-then-m-i c = line-unfed _ _ c.unfed_size-i.ensures c.if-m-i.true

pub returns-then-m-i-eq-CR : goal.returns-then-m-i-eq-CR
returns-then-m-i-eq-CR c = line-returned _ _ c.unfed_size-i.ensures (search rules) c.if-i-gt0.true c.if-m-i-eq-CR.true

pub returns : goal.returns
returns c =
    line-fed _ _ c.unfed_size-i.ensures (search rules)
    (λ z e. elim c.else-i-gt0.branch [
      | else-i-gt0-via-then-i-gt0+else-m-i-eq-CR w ↦ w.if-m-i-eq-CR.false e
      | else-i-gt0-via-else-i-gt0 w ↦ omega (arith, w.if-i-gt0.false)
    ])
