-- What each runway shows, said of the list of reports alone: demand 3, in which "a report from the wrong desk or no desk counts as not valid".
use Rattle.std.specs.Prelude.{ℕ, ◌≡◌, cond, true, false, get_or}
use mathlib.Core.List.{List, ◌∷◌, ◌++◌, Memᴰ}
use Rattle.runway.specs.Time.{later}
use Rattle.row.specs.declared.Row.{Row}
use Rattle.row.specs.Row.{valid_row, blank_row, is_blank_row}
use Rattle.board.specs.declared.Runway.{Runway}
use Rattle.board.specs.declared.Board.{Board}
use Rattle.board.specs.Board.{names, blank_runway}
use Rattle.board.specs.Report.{row_at}
use Rattle.board.specs.declared.Sent.{Sent}

-- a row, or nothing
pub data Shown : Type 0 where
  nothing : Shown
  row : Row → Shown

-- a place of zeros shows nothing
abbrev pub shown : Row → Shown
shown r = cond (is_blank_row r) nothing (row r)

-- the runway of the place i
abbrev pub runway_at : Board → ℕ → Runway
runway_at b i = get_or b.runways i blank_runway

-- what the board shows in the place i
abbrev pub shown_at : Board → ℕ → Shown
shown_at b i = shown (row_at b i)

-- the report is one of the list
abbrev pub ◌IsIn◌ : Sent → List Sent → Type 0
x IsIn xs = Memᴰ x xs

infixr 20 ◌IsIn◌
-- a valid report for the runway w that the desk o owns: the owner sends it, and its row is valid and names the runway
pub record ReportFor (w : Runway) (o : ℕ) (x : Sent) : Type 0 where
  pub sender : x.desk ≡ o
  pub valid : valid_row x.row ≡ true
  pub named : names x.row w ≡ true

-- x arrives behind the reports `before`, and the reports `after` behind it; it was observed later than each before it, and none after it was observed later
pub record Last (w : Runway) (o : ℕ) (xs : List Sent) (x : Sent) : Type 0 where
  pub before : List Sent
  pub after : List Sent
  pub split : xs ≡ before ++ x ∷ after
  pub for : ReportFor w o x
  pub over : (y : Sent) → y IsIn before → ReportFor w o y → later x.row.time y.row.time ≡ true
  pub under : (y : Sent) → y IsIn after → ReportFor w o y → later y.row.time x.row.time ≡ false

-- of the valid reports for the runway the one observed last, among equal times the first to arrive, and nothing where there is none
pub data Shows (w : Runway) (o : ℕ) (xs : List Sent) : Shown → Type 0 where
  shows-none : ((y : Sent) → y IsIn xs → ReportFor w o y → ⊥) → Shows w o xs nothing
  shows-row : {x : Sent} → Last w o xs x → Shows w o xs (row x.row)

-- no two different valid reports for the runway bear the same time
abbrev pub Apart : Runway → ℕ → List Sent → Type 0
Apart w o xs = (x y : Sent) → x IsIn xs → y IsIn xs → ReportFor w o x → ReportFor w o y → x.row.time ≡ y.row.time → x ≡ y

-- the latest time of the rows shown: 0 where no place shows one, else that of a row shown, and no row shown is later
pub data IsLatest (rows : List Row) : ℕ → Type 0 where
  none-shown : ((i : ℕ) → is_blank_row (get_or rows i blank_row) ≡ true) → IsLatest rows 0
  shown-at : (i : ℕ) → is_blank_row (get_or rows i blank_row) ≡ false
      → ((j : ℕ) → is_blank_row (get_or rows j blank_row) ≡ false → later (get_or rows j blank_row).time (get_or rows i blank_row).time ≡ false)
      → IsLatest rows (get_or rows i blank_row).time
