-- The answer to a line as a Result leaves no choice.
use Rattle.std.specs.Prelude.{◌≡◌, refl, ℕ, List, Result, Ok, Err}
use Rattle.std.proofs.Common.{sym, ◌∙◌, ap}
use Rattle.text.specs.declared.refusal.Fault.{Fault}
use Rattle.text.specs.Laws.Out.{took}
use Rattle.text.specs.Laws.Refusals.{fault-one, refused-taken}
use Rattle.row.specs.declared.Row.{Row}
use Rattle.rowtext.specs.Code.Filling.{RowFound}

pub found_one : (line : List ℕ) (r s : Result Row Fault) → RowFound line r → RowFound line s → r ≡ s
found_one line (Ok r) (Ok s) p q = ap Ok (took (λ x. r ≡ x) (sym p ∙ q) refl)
found_one line (Ok r) (Err g) p q = refused-taken q p
found_one line (Err f) (Ok s) p q = refused-taken p q
found_one line (Err f) (Err g) p q = ap Err (fault-one p q)
