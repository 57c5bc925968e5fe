use Rattle.desktext.proofs.Runways.{space-on, space-off}
use Rattle.std.proofs.Common.{arith}
use Rattle.desktext.proofs.past_space.Goals as goal
use Rattle.desktext.proofs.past_space.Goals.{else-i-s-via-then-i-s+else-s-i-eq32, else-i-s-via-else-i-s}

pub returns-then-s-i-eq32 : goal.returns-then-s-i-eq32
returns-then-s-i-eq32 c = space-on c.args.s.now c.args.i c.if-i-s.true c.if-s-i-eq32.true

pub returns-else-i-s : goal.returns-else-i-s
returns-else-i-s c =
    space-off c.args.s.now c.args.i
    (λ h e. elim c.else-i-s.branch [
      | else-i-s-via-then-i-s+else-s-i-eq32 w ↦ w.if-s-i-eq32.false e
      | else-i-s-via-else-i-s w ↦ omega arith
    ])
