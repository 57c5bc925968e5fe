-- "and for the row whether a new notice is due"
use Rattle.std.specs.Prelude.{ℕ, List, [], ◌∷◌, cond, Bool, true, false, not, eqb}
use Rattle.text.specs.Choice.{first_failing, ◌else◌, ◌and◌}
use Rattle.text.specs.Refusals.{invalid_row, runways_differ}
use Rattle.row.specs.declared.Row.{Row}
use Rattle.row.specs.Row.{valid_row, third_of, same_runway}
use Rattle.due.specs.declared.Change.{Change}
use Rattle.due.specs.Third.{third_counts}

-- "for each third whether the change counts"
unfoldable pub counts_of : Row → Row → List Bool
counts_of old new =
    third_counts (third_of old 0) (third_of new 0)
    ∷ third_counts (third_of old 1) (third_of new 1)
    ∷ third_counts (third_of old 2) (third_of new 2)
    ∷ []

-- one of them does
abbrev pub some : List Bool → Bool
some [] = false
some (b ∷ bs) = cond b true (some bs)

-- "A new notice is due when a third counts or the width differs; times don't matter"
unfoldable pub is_due : Row → Row → Bool
is_due old new = cond (some (counts_of old new)) true (not (eqb old.width new.width))

-- two rows that are compared
abbrev pub compared : List Bool → Bool → Change
compared counts due = record { refusal = 0; counts = counts; due = due }

-- "no thirds"
abbrev pub no_thirds : List Bool
no_thirds = false ∷ false ∷ false ∷ []

-- a refusal gives no thirds, and none is due
abbrev pub refused : ℕ → Change
refused number = record { refusal = number; counts = no_thirds; due = false }

-- "Refusals: 19 either row invalid, then 29 different runways; both give no thirds"
unfoldable pub change : Row → Row → Change
change old new =
    first_failing (
    (valid_row old and valid_row new) else refused invalid_row
    ∷ same_runway old new else refused runways_differ
    ∷ []) (compared (counts_of old new) (is_due old new))
