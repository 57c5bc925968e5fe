-- "Agreement check: the count of a row's thirds whose code is not one Table 1 allows."
use Rattle.std.specs.Prelude.{ℕ, ◌+◌, List, [], ◌∷◌, cond}
use Rattle.surface.specs.Table1.{agrees}
use Rattle.surface.specs.declared.Third.{Third}
use Rattle.row.specs.Row.{valid_row}
use Rattle.row.specs.declared.Row.{Row}
use Rattle.row.specs.declared.Agreement.{Agreement}
use Rattle.text.specs.Refusals.{invalid_row}

-- 1 for a third whose code Table 1 does not allow
unfoldable pub disagrees : Third → ℕ
disagrees t = cond (agrees t) 0 1

-- and their count
unfoldable pub disagreements : List Third → ℕ
disagreements [] = 0
disagreements (t ∷ ts) = disagrees t + disagreements ts

-- "An invalid row is refused (19, count 0)"
unfoldable pub agreement : Row → Agreement
agreement r = cond (valid_row r) (record { refusal = 0; count = disagreements r.thirds }) (record { refusal = invalid_row; count = 0 })
