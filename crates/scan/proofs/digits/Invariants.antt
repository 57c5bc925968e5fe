-- The invariant: the digits so far are read.
use Rattle.std.proofs.Common.{◌≡◌, ◌+◌, drop}
use Rattle.text.specs.Read.{got}
use Rattle.text.specs.Numbers.{read_digits}
use Rattle.scan.proofs.digits.Given as goal

abbrev pub invariant-loop-b : goal.invariant-loop-b
invariant-loop-b l = read_digits l.b-index (drop l.i l.s) ≡ got l.value (drop (l.start + l.b-index) l.s)
