-- The invariant: so many lines lie before the place.
use Prim.Native.Nat.{◌≤◌}
use mathlib.Core.Path.{◌≡◌}
use lib.ListN.{length}
use Rattle.text.specs.Lines.{lines_size}
use Rattle.text.proofs.lines_size.Given as goal

abbrev pub invariant-loop-k : goal.invariant-loop-k
invariant-loop-k l = (l.at ≤ length l.m) × (l.at ≡ lines_size l.k l.m)
