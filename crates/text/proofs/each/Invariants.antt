-- The invariant: whether the bytes so far pass.
use Rattle.std.proofs.Common.{◌≡◌, ℕ, Bool, take}
use Rattle.text.specs.Choice.{all}
use Rattle.text.specs.Code.Held.{Tells}
use Rattle.text.proofs.each.Given as goal

abbrev pub invariant-loop-b : goal.invariant-loop-b
invariant-loop-b g l = (p : ℕ → Bool) → Tells (goal.F-post g l.fn.test) p → l.passes ≡ all p (take l.b-index l.s)
