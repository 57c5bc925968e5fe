-- What the desk's lines mean: the line that opens a board, those of its reports, and those of the rows shown.
use Rattle.std.specs.Prelude.{ℕ, ◌<◌, ◌≤◌, ◌≡◌, refl, List, [], ◌∷◌, cond, Bool, true, false, ◌↔◌, leb, length}
use Rattle.std.proofs.Common.{sym, ◌∙◌, ap, le-leb, leb-true, leb-false, arith}
use Rattle.text.specs.Piece.{Typed, canonical, end, ◌then◌}
use Rattle.text.specs.Read.{Got, misfit, got}
use Rattle.text.specs.Laws.Base.{no-misfit}
use Rattle.text.specs.Out.{Out, refuse, taken}
use Rattle.text.specs.Laws.Out.{no-refuse, Within, stopped, Any}
use Rattle.row.specs.declared.Row.{Row}
use Rattle.row.specs.Row.{valid_row}
use Rattle.rowtext.specs.Text.{row_pieces}
use Rattle.rowtext.specs.Reading.{find_row}
use Rattle.rowtext.specs.Laws.Faults.{is_row_number, row_within}
use Rattle.rowtext.specs.Theorems.{Tells, row-sound, row-complete}
use Rattle.board.specs.declared.Answer.{Answer}
use Rattle.board.specs.declared.Board.{Board}
use Rattle.board.specs.Board.{valid_board, blank_board, answer}
use Rattle.board.specs.declared.Sent.{Sent}
use Rattle.board.specs.Report.{row_at, report}
use Rattle.board.specs.Runs.{◌sends◌, reports}
use Rattle.desktext.specs.Line.{opening_line, sender_pieces, read_sender, report_read, report_started, report_line, shown_text}
use Rattle.desktext.specs.Desk.{report_lines}
use Rattle.board.specs.Shows.{nothing, row, shown_at}
use Rattle.desktext.specs.Laws.Line.{Opens, line-sound, line-complete, line_refused, sender-laws, shown-row, shown-nothing, line-size}

-- a line opens a board exactly if it is the text of an aerodrome and runways that opening takes with that board
pub line-opens : (line : List ℕ) (b : Board) → (opening_line line ≡ answer 0 b) ↔ Opens line b
line-opens line b = (line-sound line b, line-complete line b)

-- any other line gives 17 and the blank board
pub no-opening : (line : List ℕ) → ((b : Board) → Opens line b → ⊥) → opening_line line ≡ answer 17 blank_board
no-opening = line_refused

-- the line tells the report x: a digit, the desk, and one space, and behind them a line that tells the row
pub record TellsReport (line : List ℕ) (x : Sent) : Type 0 where
  pub short : length line ≤ 4096
  pub digit : x.desk < 10
  pub rest : List ℕ
  pub start : Typed (sender_pieces x.desk) line rest
  pub told : Tells rest x.row

-- the line starts as the report says
started : (line : List ℕ) (x : Sent) (t : TellsReport line x) → read_sender line ≡ got x.desk t.rest
started line x t = sender-laws.complete x.desk {m = line} {r = t.rest} t.digit t.start tt

-- such a line is that report
pub line-reports : (b : Board) (line : List ℕ) (x : Sent) → TellsReport line x → report_line b line ≡ report b x.desk x.row
unfolding report_line
line-reports b line x t =
    rw (le-leb (length line) 4096 t.short, started line x t, row-complete t.rest x.row t.told)

got-rest : {d e : ℕ} {r s : List ℕ} → got d r ≡ got e s → r ≡ s
got-rest q = cc

-- what a line tells
told-by : (line : List ℕ) → leb (length line) 4096 ≡ true → (d : ℕ) (rest : List ℕ) → read_sender line ≡ got d rest → (r : Row)
    → find_row rest ≡ taken r → TellsReport line (d sends r)
told-by line e d rest q r w =
    let s = sender-laws.sound {m = line} q in
    record { short = leb-true (length line) 4096 e; digit = s.0; rest = rest; start = s.1; told = row-sound rest w }

-- any other line is refused, by 5 or 24 to 28, and leaves the board as it was
pub record Refused (b : Board) (a : Answer) : Type 0 where
  pub number : is_row_number a.refusal ≡ true
  pub board : a.board ≡ b

pub no-report : (b : Board) (line : List ℕ) → ((x : Sent) → TellsReport line x → ⊥) → Refused b (report_line b line)
unfolding report_line is_row_number
no-report b line none = go (leb (length line) 4096) refl (read_sender line) refl
  where
    row : leb (length line) 4096 ≡ true → (d : ℕ) (rest : List ℕ) → read_sender line ≡ got d rest → (o : Out Row) → find_row rest ≡ o
        → Within is_row_number rest Any o → Refused b (report_read b d o)
    row e d rest q (refuse n left) w (stopped h t) = record { number = h; board = refl }
    row e d rest q (taken r) w h = absurd (none (d sends r) (told-by line e d rest q r w))

    go : (t : Bool) → leb (length line) 4096 ≡ t → (g : Got ℕ) → read_sender line ≡ g → Refused b (cond t (report_started b g) (answer 5 b))
    go false e g q = record { number = refl; board = refl }
    go true e misfit q = record { number = refl; board = refl }
    go true e (got d rest) q = row e d rest q (find_row rest) refl (row_within rest)

-- the reports that lines tell, in their order: a line that tells one gives it, any other line gives none
pub data ReportsTold : List (List ℕ) → List Sent → Type 0 where
  no_line : ReportsTold [] []
  report-line : {l : List ℕ} {ls : List (List ℕ)} {x : Sent} {xs : List Sent} → TellsReport l x → ReportsTold ls xs → ReportsTold (l ∷ ls) (x ∷ xs)
  other-line : {l : List ℕ} {ls : List (List ℕ)} {xs : List Sent} → ((x : Sent) → TellsReport l x → ⊥) → ReportsTold ls xs → ReportsTold (l ∷ ls) xs

-- every list of lines tells some reports
pub lines-tell : (ls : List (List ℕ)) → (xs : List Sent) × ReportsTold ls xs
lines-tell [] = ([], no_line)
lines-tell (l ∷ ls) = go (leb (length l) 4096) refl (read_sender l) refl (lines-tell ls)
  where
    row : leb (length l) 4096 ≡ true → (d : ℕ) (rest : List ℕ) → read_sender l ≡ got d rest → (o : Out Row) → find_row rest ≡ o
        → (xs : List Sent) × ReportsTold ls xs → (xs : List Sent) × ReportsTold (l ∷ ls) xs
    row e d rest q (refuse n left) w k = (
      k.0,
      other-line {l = l}
          (λ x t. no-refuse (sym w ∙ (ap find_row (got-rest (sym q ∙ started l x t)) ∙ row-complete t.rest x.row t.told))) k.1,
    )
    row e d rest q (taken r) w k = ((d sends r) ∷ k.0, report-line (told-by l e d rest q r w) k.1)

    go : (t : Bool) → leb (length l) 4096 ≡ t → (g : Got ℕ) → read_sender l ≡ g → (xs : List Sent) × ReportsTold ls xs
        → (xs : List Sent) × ReportsTold (l ∷ ls) xs
    go false e g q k = (k.0, other-line {l = l} (λ x t. omega (arith, leb-false (length l) 4096 e, t.short)) k.1)
    go true e misfit q k = (k.0, other-line (λ x t. no-misfit (sym q ∙ started l x t)) k.1)
    go true e (got d rest) q k = row e d rest q (find_row rest) refl k

-- the board after row lines is the board after the reports that they tell
pub lines-report : {ls : List (List ℕ)} {xs : List Sent} (b : Board) → ReportsTold ls xs → report_lines b ls ≡ reports b xs
unfolding report_lines reports
lines-report b no_line = refl
lines-report b (report-line {l} {ls} {x} t more) = rw (line-reports b l x t) (lines-report (report b x.desk x.row).board more)
lines-report b (other-line {l} none more) = rw (no-report b l none).board (lines-report b more)

-- at the end a place shows the canonical line of its row, or nothing
module _ (b : Board) (valid : valid_board b ≡ true) (i : ℕ) (used : i < b.count) where
  pub line-shown : (r : Row) → shown_at b i ≡ row r → shown_text (row_at b i) ≡ canonical (row_pieces r then (end ∷ []))
  unfolding shown_text
  line-shown r e =
      let (v, same) = shown-row b valid i used r e in
      rw (same, v)

  pub nothing-shown : shown_at b i ≡ nothing → shown_text (row_at b i) ≡ []
  unfolding shown_text
  nothing-shown e = rw (shown-nothing b i e)

-- such a line has at most 148 bytes
pub shown-size : (r : Row) → length (shown_text r) ≤ 148
unfolding shown_text
shown-size r = go (valid_row r)
  where
    go : (t : Bool) → length (cond t (canonical (row_pieces r then (end ∷ []))) []) ≤ 148
    go true = let h = line-size r in omega arith
    go false = omega arith
