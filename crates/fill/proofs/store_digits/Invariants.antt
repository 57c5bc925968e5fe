-- The invariant: the digits that are left, put before those that are stored, make the number.
use Rattle.std.proofs.Common.{◌≡◌, length}
use Rattle.std.proofs.lemmas.List.Edits.{sets}
use Rattle.text.specs.Piece.{canonical}
use Rattle.text.specs.Numbers.{digits}
use Rattle.fill.proofs.store_digits.Given as goal

abbrev pub invariant-loop-k : goal.invariant-loop-k
invariant-loop-k l = (length l.out ≡ length l.initial.out) × (sets l.out l.at (canonical (digits l.k l.y)) ≡ sets l.initial.out l.at (canonical (digits l.n l.x)))
