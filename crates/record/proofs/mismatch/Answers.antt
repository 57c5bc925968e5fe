use Rattle.std.proofs.Common.{arith}
use Rattle.record.specs.Code.Fitted.{mismatch}
use Rattle.record.proofs.mismatch.Goals as goal

pub returns-then-from-front : goal.returns-then-from-front
unfolding mismatch
returns-then-from-front c = grind arith

pub returns-then-not-same_bytes : goal.returns-then-not-same_bytes
unfolding mismatch
returns-then-not-same_bytes c = grind arith

pub returns-then-front-latest_time : goal.returns-then-front-latest_time
unfolding mismatch
returns-then-front-latest_time c = grind arith

pub returns : goal.returns
unfolding mismatch
returns c = grind arith
