-- The invariant: past the run of what is left stands what stands past the whole run.
use Rattle.std.proofs.Common.{◌≡◌, ℕ, Bool, drop}
use Rattle.text.specs.Names.{past}
use Rattle.text.specs.Code.Held.{Tells}
use Rattle.text.proofs.past.Given as goal

abbrev pub invariant-loop-j : goal.invariant-loop-j
invariant-loop-j g l = (p : ℕ → Bool) → Tells (goal.F-post g l.fn.test) p → past p (drop l.j l.s) ≡ past p (drop l.i l.s)
