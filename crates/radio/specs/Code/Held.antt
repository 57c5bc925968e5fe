-- How the code's answers stand for readings and writings.
use Rattle.std.specs.Prelude.{ℕ, ◌≤◌, ◌≡◌, List, Bool, true, ltb, Result, Ok, Err, length, drop}
use Rattle.text.specs.declared.refusal.Refusal.{Refusal}
use Rattle.text.specs.Refusals.{number}
use Rattle.row.specs.declared.Row.{Row}
use Rattle.body.specs.declared.Rows.{Rows}
use Rattle.radio.specs.declared.Field.{Field}
use Rattle.radio.specs.declared.Field.TheVariants.{Minutes, Runway, Code, Coverage, Depth, Description, Width}
use Rattle.text.specs.declared.Found.{Found}
use Rattle.radio.specs.declared.Radio.{Radio}
use Rattle.radio.specs.declared.RowFound.{RowFound}
use Rattle.radio.specs.Outcome.{Outcome, refuse, taken}
use Rattle.radio.specs.Number.{Part, part}
use Rattle.radio.specs.Answers.{refused}

-- the field is one of the row, or of one of its three thirds
abbrev pub of_row : Field → Bool
of_row Minutes = true
of_row Runway = true
of_row (Code i) = ltb i 3
of_row (Coverage i) = ltb i 3
of_row (Depth i) = ltb i 3
of_row (Description i) = ltb i 3
of_row Width = true

-- the reading of the front of m that an answer stands for
abbrev pub given : {A R : Type 0} → (R → A) → (R → ℕ) → List ℕ → Result R Refusal → Outcome (Part A)
given value next m (Ok r) = taken (part (value r) (drop (next r) m))
given value next m (Err e) = refuse (number e)

-- the place behind what was read
abbrev pub behind : {R : Type 0} → (R → ℕ) → Result R Refusal → ℕ
behind next (Ok r) = next r
behind next (Err e) = 0

-- the answer r is the reading o of the front of m: `value` tells what was read, and `next` the place behind it
pub record Held {A R : Type 0} (value : R → A) (next : R → ℕ) (m : List ℕ) (o : Outcome (Part A)) (r : Result R Refusal) : Type 0 where
  pub within : behind next r ≤ length m
  pub says : o ≡ given value next m r

-- of a number
abbrev pub HeldNumber : List ℕ → Outcome (Part ℕ) → Result Found Refusal → Type 0
HeldNumber = Held (λ f. f.value) (λ f. f.next)

-- and of a row
abbrev pub HeldRow : List ℕ → Outcome (Part Row) → Result RowFound Refusal → Type 0
HeldRow = Held (λ f. f.row) (λ f. f.next)

-- the answer to a record that rows or a refusal stand for
abbrev pub as_radio : Result Rows Refusal → Radio
as_radio (Ok rows) = record { refusal = 0; rows = rows }
as_radio (Err e) = refused (number e)
