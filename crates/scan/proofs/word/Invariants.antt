-- The invariant: what is left of the text, read at j, gives what the text gave at i, and there are bytes enough for it.
use Rattle.std.proofs.Common.{◌≡◌, ◌+◌, ◌≤◌, length, drop}
use Rattle.text.specs.Read.{read_text}
use Rattle.scan.proofs.word.Given as goal

abbrev pub invariant-loop-k : goal.invariant-loop-k
invariant-loop-k l = (l.j ≤ length l.s) × (length l.t + l.j ≤ length l.s + l.k) × (read_text (drop l.k l.t) (drop l.j l.s) ≡ read_text l.t (drop l.i l.s))
