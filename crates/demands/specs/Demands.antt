-- The three demands, clause by clause and in their order, as the requests of document 02 that have landed read them; and what those requests demand. What a
-- theorem assumes is what functions promise, as their `ensures` say it; what it concludes is the clause that is quoted above it, behind which stands the
-- function. Later, latest and last are said in season order throughout, from 1 July to 30 June (request 6): `later` of runway Time.
use Rattle.std.specs.Prelude.{ℕ, ◌<◌, ◌≤◌, ◌+◌, ◌*◌, ◌≡◌, refl, cond, not, Bool, true, false, ◌↔◌, ◌⊎◌, eqb, leb, ltb, length, take, drop, get_or}
use Rattle.std.proofs.Common.{sym, subst, ◌∙◌, ap, inl, inr, arith, eqb-true, leb-true, leb-false, lt-ltb, le-ltb}
use mathlib.Core.List.{List, [], ◌∷◌, ◌++◌, map, Permᴰ}
use Rattle.std.proofs.lemmas.Bool.{eqb-false}
use Rattle.text.specs.Choice.{◌and◌, all, member, is_empty}
use Rattle.text.specs.Arrays.{is_zero}
use Rattle.text.specs.Piece.{bytes}
use Rattle.text.specs.Lines.{lines}
use Rattle.text.specs.Put.{Put}
use Rattle.text.specs.Read.{Got, misfit, got, whole}
use Rattle.text.specs.Out.{Out, refuse, taken}
use Rattle.text.specs.Laws.Base.{true-false, and-1, and-2}
use Rattle.text.specs.Laws.Arrays.{take-front}
use Rattle.text.specs.Laws.Out.{Within, stopped, Any, number-range}
use Rattle.text.specs.Refusals.{too_long, line_one_or_two, line_three, outline, no_row, ninth_row, runway_twice, wrong_items, wrong_language, serials_differ}
use Rattle.text.specs.Refusals.{aerodromes_differ, not_latest_time, invalid_record, buffer_too_short, out_of_range, contradiction, wrong_board, not_on_board, invalid_row}
use Rattle.text.specs.Refusals.{not_later, no_report, others_runway, no_desk, wrong_runway, wrong_codes, wrong_coverage_or_depth, wrong_descriptions, wrong_width}
use Rattle.text.specs.Refusals.{runways_differ, cut_short, number_form, radio_value}
use Rattle.surface.specs.declared.Observation.{Observation}
use Rattle.surface.specs.declared.Assessment.{Assessment}
use Rattle.surface.specs.Descriptions.{not_reported, dry}
use Rattle.surface.specs.Third.{third}
use Rattle.surface.specs.Table1.{code_for}
use Rattle.surface.specs.Assess.{in_range, contradictory, least_cover, coverage_for, uncovered, reported_kind, reported_depth, covered, assessed, assessed_as}
use Rattle.surface.specs.Assess.{refused_assessing, assessing}
use Rattle.row.specs.declared.Row.{Row}
use Rattle.row.specs.declared.Agreement.{Agreement}
use Rattle.row.specs.Row.{valid_row, third_of, same_runway}
use Rattle.row.specs.Agreement.{agreement}
use Rattle.due.specs.declared.Change.{Change}
use Rattle.due.specs.Change.{no_thirds, change}
use Rattle.due.specs.Counts.{Counts, Comparable, Due}
use Rattle.due.specs.Theorems as Changes
use Rattle.due.proofs.Theorems as Reasons
use Rattle.rowtext.specs.declared.RowRead.{RowRead}
use Rattle.rowtext.specs.Reading.{find_row, row_answer}
use Rattle.rowtext.specs.Laws.Faults.{is_row_number, row_within}
use Rattle.rowtext.specs.Writing.{row_text, WroteRow}
use Rattle.rowtext.specs.Theorems as RowText
use Rattle.body.specs.declared.Rows.{Rows}
use Rattle.body.specs.Rows.{rows_of, make_rows}
use Rattle.radio.specs.declared.Radio.{Radio}
use Rattle.radio.specs.Outcome.{Outcome}
use Rattle.radio.specs.Number.{is_byte}
use Rattle.radio.specs.Record.{is_count, radio_record, sendable, read_record}
use Rattle.radio.specs.Answers.{radio_reading, sending, WroteRadio}
use Rattle.radio.specs.Answers as Radio
use Rattle.radio.specs.Laws.Refusals as RadioNumbers
use Rattle.radio.specs.Laws.Size.{longest}
use Rattle.radio.specs.Theorems as RadioRecord
use Rattle.items.specs.declared.Items.{Items}
use Rattle.items.specs.declared.Language.{Language}
use Rattle.record.specs.declared.Record.{Record}
use Rattle.record.specs.declared.Reading.{Reading}
use Rattle.record.specs.Record.{valid_record, blank_record}
use Rattle.record.specs.Notice.{notice_text}
use Rattle.record.specs.Answer.{accepted}
use Rattle.text.specs.declared.Written.{Written}
use Rattle.notice.specs.Reading.{reading}
use Rattle.notice.specs.Writing.{unwritten, writing, Wrote}
use Rattle.notice.specs.Rewriting.{rewriting, Rewrote}
use Rattle.notice.specs.Laws.Reading.{among}
use Rattle.notice.specs.Laws.Reading as Numbers
use Rattle.notice.specs.Theorems as Notice
use Rattle.notice.specs.Theorems.{Told}
use Rattle.board.specs.declared.Runway.{Runway}
use Rattle.board.specs.declared.Board.{Board}
use Rattle.board.specs.declared.Answer.{Answer}
use Rattle.board.specs.declared.Sent.{Sent}
use Rattle.board.specs.Board.{places, blank_runway, is_desk, reported, valid_opening, valid_board, blank_board, answer, opening, latest_shown}
use Rattle.board.specs.Report.{place_for, row_at, owner_at, is_news, refusal, report}
use Rattle.board.specs.Runs.{◌sends◌, by_owner, reports, from, answers_to}
use Rattle.board.specs.Shows.{nothing, shown_at, ◌IsIn◌, ReportFor, Shows, shows-none, Apart, IsLatest}
use Rattle.board.specs.Laws.Rules.{rules}
use Rattle.board.specs.Laws.Shows.{shows-one}
use Rattle.board.specs.Laws.Restore.{opens-anew}
use Rattle.board.specs.Theorems as Board
use Rattle.board.proofs.Theorems as Runs
use Rattle.boardnotice.specs.declared.Details.{Details}
use Rattle.boardnotice.specs.Writing.{board_record, writing_board, WroteBoard, written_board}
use Rattle.boardnotice.specs.DeskNotice.{details_of}
use Rattle.boardnotice.specs.Laws.Writing.{board-record}
use Rattle.boardnotice.specs.Theorems as BoardNotice
use Rattle.desktext.specs.Line.{read_opening, list_of, opening_read, opening_line, read_sender, report_read, report_started, report_line}
use Rattle.desktext.specs.Desk.{printed, shown_rows, desk_text, report_lines}
use Rattle.desktext.specs.Laws.Line.{Opens}
use Rattle.desktext.specs.Laws.Desk.{line-opens, no-opening, ReportsTold, lines-tell, lines-report}
use Rattle.desktext.specs.Tables as DeskTables
use Rattle.desktext.specs.Tables.{night_shift, night_shown}
use Rattle.desktext.specs.Theorems as Desk
use Rattle.desktext.specs.Theorems.{answer_lines}

-- ---- Demand 1

-- 0, which is taken, or one of the numbers
abbrev pub ◌TakenOrRefusedBy◌ : ℕ → List ℕ → Type 0
n TakenOrRefusedBy ns = member (0 ∷ ns) n ≡ true

infixr 20 ◌TakenOrRefusedBy◌
-- reading a row: "5 keeps the row's time", 24 to 28
abbrev pub row_refusals : List ℕ
row_refusals = no_row ∷ wrong_runway ∷ wrong_codes ∷ wrong_coverage_or_depth ∷ wrong_descriptions ∷ wrong_width ∷ []

-- reading a message: 1 to 12 and 24 to 28
abbrev pub reading_refusals : List ℕ
reading_refusals =
    too_long ∷ line_one_or_two ∷ line_three ∷ outline ∷ no_row ∷ ninth_row ∷ runway_twice ∷ wrong_items ∷ wrong_language
    ∷ serials_differ ∷ aerodromes_differ ∷ not_latest_time
    ∷ wrong_runway ∷ wrong_codes ∷ wrong_coverage_or_depth ∷ wrong_descriptions ∷ wrong_width ∷ []

-- "Assessing: 15, 16"
abbrev pub assessing_refusals : List ℕ
assessing_refusals = out_of_range ∷ contradiction ∷ []

-- "order 17, 23, 19, 18, 22, 20"
abbrev pub report_refusals : List ℕ
report_refusals = wrong_board ∷ no_desk ∷ invalid_row ∷ not_on_board ∷ others_runway ∷ not_later ∷ []

-- writing a record: 13, 14
abbrev pub writing_refusals : List ℕ
writing_refusals = invalid_record ∷ buffer_too_short ∷ []

-- "Writing a board: 17, 21, 13, 14"
abbrev pub board_refusals : List ℕ
board_refusals = wrong_board ∷ no_report ∷ writing_refusals

-- what holds of both answers holds whatever the test says
either : {A : Type 0} (P : A → Type 0) (t : Bool) {a b : A} → P a → P b → P (cond t a b)
either P true p q = p
either P false p q = q

-- and a further number may be named
or-by : (k : ℕ) (ns : List ℕ) (n : ℕ) → n TakenOrRefusedBy ns → n TakenOrRefusedBy (k ∷ ns)
or-by k ns n h = go (eqb 0 n) (eqb k n) h
  where
    go : (t u : Bool) → cond t true (member ns n) ≡ true → cond t true (cond u true (member ns n)) ≡ true
    go true u g = refl
    go false true g = refl
    go false false g = g

-- a number of one list is one of two lists
either-list : (ns ks : List ℕ) (n : ℕ) → (member ns n ≡ true) ⊎ (member ks n ≡ true) → member (ns ++ ks) n ≡ true
either-list [] ks n (inl h) = true-false (sym h)
either-list [] ks n (inr h) = h
either-list (k ∷ ns) ks n h = go (eqb k n) h (either-list ns ks n)
  where
    go : (t : Bool) → (cond t true (member ns n) ≡ true) ⊎ (member ks n ≡ true) → ((member ns n ≡ true) ⊎ (member ks n ≡ true) → member (ns ++ ks) n ≡ true)
        → cond t true (member (ns ++ ks) n) ≡ true
    go true g ih = refl
    go false g ih = ih g

-- "Every message .. is taken or refused by number": `read`
pub message-by-number : (m : List ℕ) (a : Reading) → a ≡ reading m → a.refusal TakenOrRefusedBy reading_refusals
message-by-number m a e = rw e (go (eqb (reading m).refusal 0) refl)
  where
    go : (t : Bool) → eqb (reading m).refusal 0 ≡ t → (reading m).refusal TakenOrRefusedBy reading_refusals
    go true q = rw (eqb-true (reading m).refusal 0 q)
    go false q =
        let n = (reading m).refusal in
        let r = number-range n (Notice.refused-numbered m (eqb-false n 0 q)).number in
        either-list (Numbers.from 0 13) (Numbers.from 24 5) n (sides (leb n 12) refl r)
      where
        sides : (b : Bool) → leb (reading m).refusal 12 ≡ b → ((reading m).refusal ≤ 12 → 1 ≤ (reading m).refusal) × (12 < (reading m).refusal
            → 24 ≤ (reading m).refusal) × ((reading m).refusal ≤ 28)
            → (member (Numbers.from 0 13) (reading m).refusal ≡ true) ⊎ (member (Numbers.from 24 5) (reading m).refusal ≡ true)
        sides true f r = let l = leb-true (reading m).refusal 12 f in inl (among 13 0 (reading m).refusal (omega arith) (omega arith))
        sides false f r =
            let l = leb-false (reading m).refusal 12 f in
            let g = r.1 l in
            inr (among 5 24 (reading m).refusal g (omega (arith, r.2)))

row_named : (line : List ℕ) → (row_answer line (find_row line)).refusal TakenOrRefusedBy row_refusals
unfolding is_row_number
row_named line = go (find_row line) (row_within line)
  where
    named : (n : ℕ) (t : Bool) → eqb 5 n ≡ t → (b : Bool) → eqb n 5 ≡ b → cond b true (leb 24 n and leb n 28) ≡ true
        → cond t true (member (Numbers.from 24 5) n) ≡ true
    named n true p b q h = refl
    named n false p true q h = absurd (eqb-false 5 n p (sym (eqb-true n 5 q)))
    named n false p false q h =
        let l = leb-true 24 n (and-1 (leb 24 n) (leb n 28) h) in
        let k = leb-true n 28 (and-2 (leb 24 n) (leb n 28) h) in
        among 5 24 n l (omega arith)

    or-zero : (n : ℕ) → member row_refusals n ≡ true → n TakenOrRefusedBy row_refusals
    or-zero n h = either-list (0 ∷ []) row_refusals n (inr h)

    go : (o : Out Row) → Within is_row_number line Any o → (row_answer line o).refusal TakenOrRefusedBy row_refusals
    go (refuse n left) (stopped h t) = or-zero n (named n (eqb 5 n) refl (eqb n 5) refl h)
    go (taken r) w = refl

-- a row's text, `read_row`
pub row-by-number : (line : List ℕ) (a : RowRead) → a ≡ row_answer line (find_row line) → a.refusal TakenOrRefusedBy row_refusals
row-by-number line a e = rw e (row_named line)

-- `rewrite`: the same, and 14
pub rewriting-by-number : {m before after : List ℕ} {w : Written} → Rewrote m before after w → w.refusal TakenOrRefusedBy (buffer_too_short ∷ reading_refusals)
unfolding rewriting writing
rewriting-by-number {m} {before} {after} {w} p = rw p.answer (go (eqb (reading m).refusal 0) refl)
  where
    Named : Written → Type 0
    Named v = v.refusal TakenOrRefusedBy (buffer_too_short ∷ reading_refusals)

    go : (t : Bool) → eqb (reading m).refusal 0 ≡ t → Named (cond t (writing (reading m).«record» (length before)) (unwritten (reading m).refusal))
    go true e =
        rw (Notice.read-valid m (reading m) refl (eqb-true (reading m).refusal 0 e))
        (either Named (leb (length (notice_text (reading m).«record»)) (length before)) refl refl)
    go false e = or-by buffer_too_short reading_refusals (reading m).refusal (message-by-number m (reading m) refl)

-- "Every .. observation ..": `assess`
pub observation-by-number : (o : Observation) (a : Assessment) → a ≡ assessing o → a.refusal TakenOrRefusedBy assessing_refusals
unfolding assessing
observation-by-number o a e = rw e (either Named (in_range o) (either Named (not (contradictory o)) refl refl) refl)
  where
    Named : Assessment → Type 0
    Named x = x.refusal TakenOrRefusedBy assessing_refusals

-- a row's agreement, `disagreeing`: 19
pub agreement-by-number : (r : Row) (a : Agreement) → a ≡ agreement r → a.refusal TakenOrRefusedBy (invalid_row ∷ [])
unfolding agreement
agreement-by-number r a e = rw e (either (λ (x : Agreement). x.refusal TakenOrRefusedBy (invalid_row ∷ [])) (valid_row r) refl refl)

-- a new row against the row shown, `compare`: "19 either row invalid, then 29 different runways"
pub change-by-number : (old new : Row) (a : Change) → a ≡ change old new → a.refusal TakenOrRefusedBy (invalid_row ∷ runways_differ ∷ [])
unfolding change
change-by-number old new a e = rw e (either Named (valid_row old and valid_row new) (either Named (same_runway old new) refl refl) refl)
  where
    Named : Change → Type 0
    Named x = x.refusal TakenOrRefusedBy (invalid_row ∷ runways_differ ∷ [])

-- a radio record, `read_radio`: 30, 31, 32
pub radio-by-number : (m : List ℕ) (a : Radio) → a ≡ radio_reading m → a.refusal TakenOrRefusedBy (cut_short ∷ number_form ∷ radio_value ∷ [])
unfolding radio_reading
radio-by-number m a e = rw e (go (read_record m) (RadioRecord.reading-refusals m))
  where
    go : (o : Outcome (List Row)) → RadioNumbers.Within (cut_short ∷ number_form ∷ radio_value ∷ []) o
        → (Radio.answer o).refusal TakenOrRefusedBy (cut_short ∷ number_form ∷ radio_value ∷ [])
    go (Outcome.refuse n) h = either-list (0 ∷ []) (cut_short ∷ number_form ∷ radio_value ∷ []) n (inr h)
    go (Outcome.taken rows) h = refl

-- rows written as one, `write_radio`: "32 .., 19 .., 32 .., then 14"
pub radio-writing-by-number : {r : Rows} {before after : List ℕ} {w : Written} → WroteRadio r before after w
    → w.refusal TakenOrRefusedBy (radio_value ∷ invalid_row ∷ buffer_too_short ∷ [])
radio-writing-by-number {r} {before} p = rw p.answers (go (sending (length before) r) (RadioNumbers.sending-within (length before) r))
  where
    go : (o : Outcome (List ℕ)) → RadioNumbers.Within (radio_value ∷ invalid_row ∷ buffer_too_short ∷ []) o
        → (Radio.written o).refusal TakenOrRefusedBy (radio_value ∷ invalid_row ∷ buffer_too_short ∷ [])
    go (Outcome.refuse n) h = either-list (0 ∷ []) (radio_value ∷ invalid_row ∷ buffer_too_short ∷ []) n (inr h)
    go (Outcome.taken m) h = refl

-- opening a board, `open`: 17
pub opening-by-number : (aerodrome : List ℕ) (count : ℕ) (runways : List Runway) (owners : List ℕ) (a : Answer) → a ≡ opening aerodrome count runways owners
    → a.refusal TakenOrRefusedBy (wrong_board ∷ [])
unfolding opening
opening-by-number aerodrome count runways owners a e =
    rw e (either (λ (x : Answer). x.refusal TakenOrRefusedBy (wrong_board ∷ [])) (valid_opening aerodrome count runways owners) refl refl)

-- and by a line, `open_line`
pub opening-line-by-number : (l : List ℕ) (a : Answer) → a ≡ opening_line l → a.refusal TakenOrRefusedBy (wrong_board ∷ [])
unfolding opening_line
opening-line-by-number l a e = rw e (go (whole (read_opening l)))
  where
    go : (g : Got (List ℕ × List (Runway × ℕ))) → (opening_read g).refusal TakenOrRefusedBy (wrong_board ∷ [])
    go misfit = refl
    go (got p k) = let l = list_of p.1 in opening-by-number p.0 l.count l.runways l.owners (opening_read (got p k)) refl

-- a report is a row with its sender
abbrev pub report_of : Board → Sent → Answer
report_of b x = report b x.desk x.row

-- "Every .. report ..": `report`, and `updated`
pub report-by-number : (b : Board) (x : Sent) (a : Answer) → a ≡ report_of b x → a.refusal TakenOrRefusedBy report_refusals
unfolding report refusal
report-by-number b x a e =
    let r = x.row in
    let i = place_for b r in
    rw e (either Named (valid_board b) (either Named (is_desk x.desk) (either Named (valid_row r) (either Named (ltb i b.count)
    (either Named (eqb x.desk (owner_at b i)) (either Named (is_news r (row_at b i)) refl refl) refl) refl) refl) refl) refl)
  where
    Named : ℕ → Type 0
    Named n = n TakenOrRefusedBy report_refusals

-- `take_report`, on the board that it is lent
pub step-by-number : (b c : Board) (x : Sent) (n : ℕ) → (c ≡ (report_of b x).board) × (n ≡ (report_of b x).refusal) → n TakenOrRefusedBy report_refusals
step-by-number b c x n p = rw p.1 (report-by-number b x (report_of b x) refl)

-- `report_line`: 5 too where the line does not start with a desk, and a row's refusals where it is no row behind that
pub line-by-number : (b : Board) (l : List ℕ) (a : Answer) → a ≡ report_line b l → a.refusal TakenOrRefusedBy (row_refusals ++ report_refusals)
unfolding report_line
line-by-number b l a e = rw e (either Named (leb (length l) 4096) (started (read_sender l)) refl)
  where
    Named : Answer → Type 0
    Named x = x.refusal TakenOrRefusedBy (row_refusals ++ report_refusals)

    go : (d : ℕ) (line : List ℕ) (o : Out Row) → find_row line ≡ o → Named (report_read b d o)
    go d line (refuse n left) q =
        either-list (0 ∷ row_refusals) report_refusals n (inl (subst (λ (o : Out Row). (row_answer line o).refusal TakenOrRefusedBy row_refusals) q
        (row_named line)))
    go d line (taken r) q =
        let n = (report b d r).refusal in
        or-by no_row (24 ∷ 25 ∷ 26 ∷ 27 ∷ 28 ∷ report_refusals) n (or-by 24 (25 ∷ 26 ∷ 27 ∷ 28 ∷ report_refusals) n (or-by 25 (26 ∷ 27 ∷ 28 ∷ report_refusals) n
        (or-by 26 (27 ∷ 28 ∷ report_refusals) n (or-by 27 (28 ∷ report_refusals) n (or-by 28 report_refusals n (report-by-number b (d sends r)
        (report b d r) refl))))))

    started : (g : Got ℕ) → Named (report_started b g)
    started misfit = refl
    started (got d k) = go d k (find_row k) refl

-- "Every .. record ..": `write`
pub record-by-number : {r : Record} {before after : List ℕ} {w : Written} → Wrote r before after w → w.refusal TakenOrRefusedBy writing_refusals
unfolding writing
record-by-number {r} {before} p = rw p.answer (either Named (valid_record r) (either Named (leb (length (notice_text r)) (length before)) refl refl) refl)
  where
    Named : Written → Type 0
    Named w = w.refusal TakenOrRefusedBy writing_refusals

-- a board written, `write_board`
pub board-by-number : {b : Board} {d : Details} {i : Items} {l : Language} {before after : List ℕ} {w : Written} → WroteBoard b d i l before after w
    → w.refusal TakenOrRefusedBy board_refusals
unfolding writing_board writing
board-by-number {b} {d} {i} {l} {before} p =
    let r = board_record b d i l in
    rw p.answer (either Named (valid_board b) (either Named (not (is_empty (reported b.rows)))
    (either Named (valid_record r) (either Named (leb (length (notice_text r)) (length before)) refl refl) refl) refl) refl)
  where
    Named : Written → Type 0
    Named w = w.refusal TakenOrRefusedBy board_refusals

-- request 3: "A board handed in with a wrong stored time is refused by 17"
wrong-time : (b : Board) → (b.latest ≡ latest_shown b.rows → ⊥) → valid_board b ≡ false
wrong-time b h = go (valid_board b) refl
  where
    go : (t : Bool) → valid_board b ≡ t → valid_board b ≡ false
    go true v = absurd (h (rules b v).latest)
    go false v = v

-- in reporting, `report`
pub wrong-time-reported : (b : Board) (x : Sent) (a : Answer) → a ≡ report_of b x → (b.latest ≡ latest_shown b.rows → ⊥) → a ≡ answer wrong_board b
unfolding report refusal
wrong-time-reported b x a e h = e ∙ rw (wrong-time b h)

-- and in writing, `write_board`
pub wrong-time-written : {b : Board} {d : Details} {i : Items} {l : Language} {before after : List ℕ} {w : Written} → WroteBoard b d i l before after w
    → (b.latest ≡ latest_shown b.rows → ⊥) → (w ≡ unwritten wrong_board) × (after ≡ before)
unfolding writing_board written_board
wrong-time-written {b} p h = (p.answer ∙ rw (wrong-time b h), p.holds ∙ rw (wrong-time b h))

-- "A refused reading yields the blank record"
pub refused-reading : (m : List ℕ) (a : Reading) → a ≡ reading m → (a.refusal ≡ 0 → ⊥) → a.«record» ≡ blank_record
refused-reading m a e h = ap (λ x. x.«record») e ∙ Notice.refused-blank m (λ z. h (ap (λ x. x.refusal) e ∙ z))

-- "a refused report leaves the board as before"
pub refused-report : (b : Board) (x : Sent) (a : Answer) → a ≡ report_of b x → (a.refusal ≡ 0 → ⊥) → a.board ≡ b
refused-report b x a e h = ap (λ y. y.board) e ∙ Board.refused-stays b x.desk x.row (λ z. h (ap (λ y. y.refusal) e ∙ z))

-- and so does `take_report`, on the board that it is lent
pub refused-step : (b c : Board) (x : Sent) (n : ℕ) → (c ≡ (report_of b x).board) × (n ≡ (report_of b x).refusal) → (n ≡ 0 → ⊥) → c ≡ b
refused-step b c x n p h = p.0 ∙ Board.refused-stays b x.desk x.row (λ z. h (p.1 ∙ z))

-- and so does `report_line`
pub refused-report-line : (b : Board) (l : List ℕ) (a : Answer) → a ≡ report_line b l → (a.refusal ≡ 0 → ⊥) → a.board ≡ b
unfolding report_line
refused-report-line b l a e h =
    ap (λ x. x.board) e ∙ either Kept (leb (length l) 4096) (started (read_sender l)) (λ k. refl) (λ z. h (ap (λ x. x.refusal) e ∙ z))
  where
    Kept : Answer → Type 0
    Kept x = (x.refusal ≡ 0 → ⊥) → x.board ≡ b

    go : (d : ℕ) (o : Out Row) → Kept (report_read b d o)
    go d (refuse n left) = λ k. refl
    go d (taken r) = refused-report b (d sends r) (report b d r) refl

    started : (g : Got ℕ) → Kept (report_started b g)
    started misfit = λ k. refl
    started (got d m) = go d (find_row m)

-- "a refused writing touches no byte of the buffer", and answers length 0: `write`
pub refused-writing : {r : Record} {before after : List ℕ} {w : Written} → Wrote r before after w → (w.refusal ≡ 0 → ⊥) → (after ≡ before) × (w.length ≡ 0)
refused-writing p = (Notice.wrote-filled p).0.refused

-- `rewrite`
pub refused-rewriting : {m before after : List ℕ} {w : Written} → Rewrote m before after w → (w.refusal ≡ 0 → ⊥) → (after ≡ before) × (w.length ≡ 0)
refused-rewriting p = (Notice.rewrote-filled p).refused

-- `write_board`
pub refused-board-writing : {b : Board} {d : Details} {i : Items} {l : Language} {before after : List ℕ} {w : Written} → WroteBoard b d i l before after w
    → (w.refusal ≡ 0 → ⊥) → (after ≡ before) × (w.length ≡ 0)
refused-board-writing p = (BoardNotice.board-filled p).refused

-- `write_radio`
pub refused-radio-writing : {r : Rows} {before after : List ℕ} {w : Written} → WroteRadio r before after w → (w.refusal ≡ 0 → ⊥) → (after ≡ before) × (w.length ≡ 0)
refused-radio-writing = RadioRecord.untouched

-- `write_row`, which answers a length alone: a row that is not valid, or does not fit
pub refused-row-writing : (r : Row) {before after : List ℕ} {n : ℕ} → WroteRow (row_text r) before after n
    → (valid_row r ≡ true → length (row_text r) ≤ length before → ⊥) → (after ≡ before) × (n ≡ 0)
refused-row-writing = RowText.refused-untouched

-- a "refused assessing" reports "a third of code 0 with all NR": `assess`
pub refused-assessing : (o : Observation) (a : Assessment) → a ≡ assessing o → (a.refusal ≡ 0 → ⊥) → a.third ≡ third 0 not_reported not_reported not_reported
unfolding assessing
refused-assessing o a e h =
    ap (λ x. x.third) e ∙ either Blank (in_range o) (either Blank (not (contradictory o)) (λ k. absurd (k refl)) (λ k. refl)) (λ k. refl)
    (λ z. h (ap (λ x. x.refusal) e ∙ z))
  where
    Blank : Assessment → Type 0
    Blank x = (x.refusal ≡ 0 → ⊥) → x.third ≡ third 0 not_reported not_reported not_reported

-- "A refused opening yields the blank board": `open`
pub refused-opening : (aerodrome : List ℕ) (count : ℕ) (runways : List Runway) (owners : List ℕ) (a : Answer) → a ≡ opening aerodrome count runways owners
    → (a.refusal ≡ 0 → ⊥) → a.board ≡ blank_board
unfolding opening
refused-opening aerodrome count runways owners a e h =
    ap (λ x. x.board) e ∙ either Blank (valid_opening aerodrome count runways owners) (λ k. absurd (k refl)) (λ k. refl) (λ z. h (ap (λ x. x.refusal) e ∙ z))
  where
    Blank : Answer → Type 0
    Blank x = (x.refusal ≡ 0 → ⊥) → x.board ≡ blank_board

-- and by a line, `open_line`
pub refused-opening-line : (l : List ℕ) (a : Answer) → a ≡ opening_line l → (a.refusal ≡ 0 → ⊥) → a.board ≡ blank_board
unfolding opening_line
refused-opening-line l a e h = ap (λ x. x.board) e ∙ go (whole (read_opening l)) (λ z. h (ap (λ x. x.refusal) e ∙ z))
  where
    go : (g : Got (List ℕ × List (Runway × ℕ))) → ((opening_read g).refusal ≡ 0 → ⊥) → (opening_read g).board ≡ blank_board
    go misfit k = refl
    go (got p m) k = let l = list_of p.1 in refused-opening p.0 l.count l.runways l.owners (opening_read (got p m)) refl k

-- "An invalid row is refused (19, count 0)": `disagreeing`
pub refused-agreement : (r : Row) (a : Agreement) → a ≡ agreement r → (a.refusal ≡ 0 → ⊥) → a.count ≡ 0
unfolding agreement
refused-agreement r a e h = ap (λ x. x.count) e ∙ either Blank (valid_row r) (λ k. absurd (k refl)) (λ k. refl) (λ z. h (ap (λ x. x.refusal) e ∙ z))
  where
    Blank : Agreement → Type 0
    Blank x = (x.refusal ≡ 0 → ⊥) → x.count ≡ 0

-- "both give no thirds", and no notice is due: `compare`
pub refused-change : (old new : Row) (a : Change) → a ≡ change old new → (a.refusal ≡ 0 → ⊥) → (a.counts ≡ no_thirds) × (a.due ≡ false)
refused-change old new a e h = rw e (Changes.refused-nothing old new (λ z. h (ap (λ x. x.refusal) e ∙ z)))

-- "A refused reading gives no rows": `read_radio`
pub refused-radio : (m : List ℕ) (a : Radio) → a ≡ radio_reading m → (a.refusal ≡ 0 → ⊥) → a.rows ≡ make_rows []
refused-radio m a e h = ap (λ (x : Radio). x.rows) e ∙ RadioRecord.no_rows m (λ z. h (ap (λ (x : Radio). x.refusal) e ∙ z))

-- ---- Demand 2

-- "A written valid record reads back as that record": `write`, and then `read` of as many bytes as it answered
pub reads-back : {r : Record} {before after : List ℕ} {w : Written} → Wrote r before after w → w.refusal ≡ 0 → (a : Reading)
    → a ≡ reading (take w.length after) → a ≡ accepted r
reads-back {r} {before} {after} {w} p z a e =
    let (filled, valid) = Notice.wrote-filled p in
    e ∙ (ap reading (filled.front ∙ ap (λ n. cond (eqb n 0) (notice_text r) []) z) ∙ Notice.back r (valid z))

-- and a valid record is never refused where there is room for 4,096 bytes
pub valid-is-written : {r : Record} {before after : List ℕ} {w : Written} → Wrote r before after w → valid_record r ≡ true → 4096 ≤ length before
    → w.refusal ≡ 0
valid-is-written = Notice.never-refused

-- "A message of at most 4,096 bytes is accepted exactly when some valid record's text differs from it only by the four freedoms": `read`
pub accepted-exactly : (m : List ℕ) (a : Reading) → a ≡ reading m → length m ≤ 4096 → (a.refusal ≡ 0) ↔ Told m
accepted-exactly m a e l = rw e (Notice.exactly m l)

-- "and that record is the one returned"
pub that-record : (m : List ℕ) (a : Reading) → a ≡ reading m → length m ≤ 4096 → (t : Told m) → a ≡ accepted t.tells
that-record m a e l t = e ∙ Notice.complete m t.tells t.valid t.typed l

-- what the tables give: below 10 per cent of cover code 6, NR, NR, and DRY or NR; from there on the code by Table 1 of the kind that is reported,
-- its coverage and its depth
pub record AsTheTables (o : Observation) (a : Assessment) : Type 0 where
  pub taken : a.refusal ≡ 0
  pub bare : o.cover < least_cover → a.third ≡ third 6 not_reported not_reported (cond (eqb o.kind dry) dry not_reported)
  pub code : least_cover ≤ o.cover → a.third.code ≡ code_for (reported_kind o) o
  pub coverage : least_cover ≤ o.cover → a.third.coverage ≡ coverage_for o.cover
  pub depth : least_cover ≤ o.cover → a.third.depth ≡ reported_depth (reported_kind o) o.depth
  pub description : least_cover ≤ o.cover → a.third.description ≡ reported_kind o

-- "Assessment gives the code, coverage, depth and description that the tables give": `assess`
pub assessed-by-tables : (o : Observation) (a : Assessment) → a ≡ assessing o → in_range o ≡ true → contradictory o ≡ false → AsTheTables o a
unfolding assessing assessed uncovered covered
assessed-by-tables o a e v c = record {
  taken = ap (λ x. x.refusal) is;
  bare = λ l. ap (λ x. x.third) is ∙ rw (lt-ltb o.cover least_cover l);
  code = λ l. ap (λ x. x.code) (from-ten l);
  coverage = λ l. ap (λ x. x.coverage) (from-ten l);
  depth = λ l. ap (λ x. x.depth) (from-ten l);
  description = λ l. ap (λ x. x.description) (from-ten l);
}
  where
    is : a ≡ assessed_as (assessed o)
    is = e ∙ rw (v, c)

    from-ten : least_cover ≤ o.cover → a.third ≡ covered (reported_kind o) o
    from-ten l = ap (λ x. x.third) is ∙ rw (le-ltb o.cover least_cover l)

-- 15 where the observation is out of range
pub out_of_range_lem : (o : Observation) (a : Assessment) → a ≡ assessing o → in_range o ≡ false → a ≡ refused_assessing out_of_range
unfolding assessing
out_of_range_lem o a e v = e ∙ rw v

-- 16 where it contradicts itself
pub contradicted : (o : Observation) (a : Assessment) → a ≡ assessing o → in_range o ≡ true → contradictory o ≡ true → a ≡ refused_assessing contradiction
unfolding assessing
contradicted o a e v c = e ∙ rw (v, c)

-- ---- Demand 3

-- calls one after the other, each for the board that the one before it left: one that answers the board (`report`, `updated`, `report_line`), or one that
-- is lent it (`take_report`)
pub data Calls {A : Type 0} (step : Board → A → Answer) : Board → List A → Board → Type 0 where
  no_call : {b : Board} → Calls step b [] b
  answered : {b d : Board} {x : A} {xs : List A} (a : Answer) → a ≡ step b x → Calls step a.board xs d → Calls step b (x ∷ xs) d
  lent : {b c d : Board} {x : A} {xs : List A} (n : ℕ) → (c ≡ (step b x).board) × (n ≡ (step b x).refusal) → Calls step c xs d → Calls step b (x ∷ xs) d

-- they leave the board that the definitions give
are-reports : {b c : Board} {xs : List Sent} → Calls report_of b xs c → c ≡ reports b xs
unfolding reports
are-reports no_call = refl
are-reports (answered {xs = xs} a e k) = are-reports k ∙ ap (λ y. reports y.board xs) e
are-reports (lent {xs = xs} n e k) = are-reports k ∙ ap (λ b. reports b xs) e.0

-- the answers of calls to a desk's reports, in their order
pub answers_of : ℕ → {b c : Board} {xs : List Sent} → Calls report_of b xs c → List ℕ
answers_of d no_call = []
answers_of d (answered {x = x} a e k) = cond (eqb x.desk d) (a.refusal ∷ answers_of d k) (answers_of d k)
answers_of d (lent {x = x} n e k) = cond (eqb x.desk d) (n ∷ answers_of d k) (answers_of d k)

-- are those that the definitions give
are-answers : (d : ℕ) {b c : Board} {xs : List Sent} (k : Calls report_of b xs c) → answers_of d k ≡ answers_to d b xs
unfolding answers_of answers_to
are-answers d no_call = refl
are-answers d (answered {x = x} {xs = xs} a e k) =
    rw (are-answers d k) (ap (λ y. cond (eqb x.desk d) (y.refusal ∷ answers_to d y.board xs) (answers_to d y.board xs)) e)
are-answers d (lent {b = b} {c = c} {x = x} {xs = xs} n e k) =
    rw (are-answers d k) (λ i. cond (eqb x.desk d) (e.1 i ∷ answers_to d (e.0 i) xs) (answers_to d (e.0 i) xs))

are-lines : {b c : Board} {ls : List (List ℕ)} → Calls report_line b ls c → c ≡ report_lines b ls
unfolding report_lines
are-lines no_call = refl
are-lines (answered {xs = ls} a e k) = are-lines k ∙ ap (λ x. report_lines x.board ls) e
are-lines (lent {xs = ls} n e k) = are-lines k ∙ ap (λ b. report_lines b ls) e.0

-- a board opened with an aerodrome, runways and their owners: `open`
module _ (aerodrome : List ℕ) (count : ℕ) (runways : List Runway) (owners : List ℕ) (o : Answer) (opened : o ≡ opening aerodrome count runways owners)
    (taken : o.refusal ≡ 0) where
  was-taken : opening aerodrome count runways owners ≡ answer 0 o.board
  was-taken = sym opened ∙ (λ i. record { refusal = taken i; board = o.board })

  -- "Each runway then shows": of the valid reports that name it the one observed last, among equal times the first to arrive; "a report from the wrong desk or
  -- no desk counts as not valid"
  pub each-shows : {xs : List Sent} {c : Board} → Calls report_of o.board xs c → (i : ℕ) → i < count
      → Shows (get_or runways i blank_runway) (get_or owners i 0) xs (shown_at c i)
  each-shows {xs} k i l =
      subst (λ c. Shows (get_or runways i blank_runway) (get_or owners i 0) xs (shown_at c i)) (sym (are-reports k))
      (Runs.runway-shows aerodrome count runways owners o.board was-taken xs i l)

  -- "with none it shows nothing"
  pub none-shows-nothing : {xs : List Sent} {c : Board} → Calls report_of o.board xs c → (i : ℕ) → i < count
      → ((x : Sent) → x IsIn xs → ReportFor (get_or runways i blank_runway) (get_or owners i 0) x → ⊥) → shown_at c i ≡ nothing
  none-shows-nothing k i l h = shows-one (get_or runways i blank_runway) (get_or owners i 0) (each-shows k i l) (shows-none h)

  -- the same reports in another order, no two different valid ones for a runway with the same time
  module _ {xs ys : List Sent} (moved : Permᴰ xs ys) (apart : (i : ℕ) → i < count → Apart (get_or runways i blank_runway) (get_or owners i 0) xs) {b c : Board}
      (first : Calls report_of o.board xs b) (second : Calls report_of o.board ys c) where
    -- leave the same board
    pub same-board : b ≡ c
    same-board = are-reports first ∙ (Runs.order-free aerodrome count runways owners o.board was-taken xs ys moved apart ∙ sym (are-reports second))

    -- "with the same heading details, items, plain language and buffer length they give the same notice, byte for byte, or the same refusal": `write_board`
    pub same-notice : {d : Details} {i : Items} {l : Language} {x₀ x y₀ y : List ℕ} {v w : Written} → WroteBoard b d i l x₀ x v → WroteBoard c d i l y₀ y w
        → length x₀ ≡ length y₀ → (v ≡ w) × (take v.length x ≡ take w.length y)
    same-notice {d} {i} {l} {x₀} {x} {y₀} {y} {v} {w} p q e = BoardNotice.one-notice (subst (λ a. WroteBoard a d i l x₀ x v) same-board p) q e

  -- request 1: "Two runs in which only the other desk's reports differ must give a desk the same answers to its reports and the same rows for its runways": for
  -- every desk d and whatever the others, or no desk, send and whenever. "the notice's heading time and length and refusals 14 and 21 may still depend on both"
  pub isolated : (d : ℕ) {xs ys : List Sent} {b c : Board} (first : Calls report_of o.board xs b) (second : Calls report_of o.board ys c)
      → from d xs ≡ from d ys → (answers_of d first ≡ answers_of d second) × ((i : ℕ) → get_or owners i 0 ≡ d → row_at b i ≡ row_at c i)
  isolated d {xs} {ys} first second same =
      let (answers, rows) = Runs.isolation aerodrome count runways owners o.board was-taken d xs ys same in (
        are-answers d first ∙ (answers ∙ sym (are-answers d second)),
        λ i e. ap (λ z. row_at z i) (are-reports first) ∙ (rows i e ∙ ap (λ z. row_at z i) (sym (are-reports second))),
      )

  -- request 3: "Store it in the board, with a mark for none, true after opening and after each report, taken or refused": the stored time is 0 where no row is
  -- shown, else that of a row shown, and no row shown is later
  pub time-stored : {xs : List Sent} {c : Board} → Calls report_of o.board xs c → IsLatest c.rows c.latest
  time-stored {xs} k =
      subst (λ c. IsLatest c.rows c.latest) (sym (are-reports k)) (Runs.time-latest aerodrome count runways owners o.board was-taken xs)

-- of the desk: a line opens a board exactly if it is the text of an aerodrome, runways and owners that opening takes, with that board: `open_line`
pub opened-by-line : (l : List ℕ) (a : Answer) (b : Board) → a ≡ opening_line l → (a ≡ answer 0 b) ↔ Opens l b
opened-by-line l a b e = rw e (line-opens l b)

-- any other line gives 17 and the blank board
pub refused-line : (l : List ℕ) (a : Answer) → a ≡ opening_line l → ((b : Board) → Opens l b → ⊥) → a ≡ answer wrong_board blank_board
refused-line l a e none = e ∙ no-opening l none

-- the board after any list of row lines is that after the reports that the lines tell: `report_line`
pub lines-are-reports : {b c : Board} {ls : List (List ℕ)} → Calls report_line b ls c
    → ((xs : List Sent) × ReportsTold ls xs) × ((xs : List Sent) → ReportsTold ls xs → c ≡ reports b xs)
lines-are-reports {b} {c} {ls} k = (lines-tell ls, λ xs t. are-lines k ∙ lines-report b t)

-- what the desk prints: `desk`, in a buffer of three bytes for each byte of the input and 1,186 more
desk-tells : (m : List ℕ) {before after : List ℕ} {n : ℕ} → 3 * length m + 1186 ≤ length before → Put 0 (desk_text m) before after n → take n after ≡ desk_text m
desk-tells m {before} room p = let (n, holds) = Desk.desk-whole m room p in rw (n, holds) (take-front (desk_text m) (drop (length (desk_text m)) before))

-- and at the end it prints the rows that this board shows
pub desk-prints : (m l : List ℕ) (ls : List (List ℕ)) (b : Board) (xs : List Sent) → lines m ≡ l ∷ ls → Opens l b → ReportsTold ls xs
    → {before after : List ℕ} {n : ℕ} → 3 * length m + 1186 ≤ length before → Put 0 (desk_text m) before after n
    → take n after ≡ printed (bytes "OPEN") ++ (answer_lines b ls ++ shown_rows places (reports b xs))
desk-prints m l ls b xs e o t room p = desk-tells m room p ∙ Desk.desk-prints m l ls b xs e ((line-opens l b).1 o) t

-- ---- Request 5: when must we send a new notice? `compare`

-- "Given the row shown and a new row, tell for each third whether the change counts": it does for the reasons of `Counts`, and for no other
pub third-counts : (old new : Row) (a : Change) → a ≡ change old new → (i : ℕ) → i < 3
    → (get_or a.counts i false ≡ true) ↔ (Comparable old new × Counts (third_of old i) (third_of new i))
third-counts old new a e i h = rw e (Reasons.third-exactly old new i h)

-- "and for the row whether a new notice is due": "when a third counts or the width differs"
pub notice-due : (old new : Row) (a : Change) → a ≡ change old new → (a.due ≡ true) ↔ (Comparable old new × Due old new)
notice-due old new a e = rw e (Reasons.due-exactly old new)

-- "The answer for a row is the same with old and new exchanged"
pub same-exchanged : (old new : Row) (a b : Change) → a ≡ change old new → b ≡ change new old → a ≡ b
same-exchanged old new a b e f = e ∙ (Changes.exchanged old new ∙ sym f)

-- ---- Request 6: New Year's night

-- "A station on the night shift had 01010010 refused as older than 12312350": it is taken and shown, and 12312350 is refused behind it (20): `desk`
pub new-years-night : {before after : List ℕ} {n : ℕ} → 3 * length night_shift + 1186 ≤ length before → Put 0 (desk_text night_shift) before after n
    → take n after ≡ night_shown
new-years-night room p = desk-tells night_shift room p ∙ DeskTables.new-years-night

-- ---- Request 7: a radio record for the inspection cars, `write_radio` and `read_radio`

-- "Reading and writing must undo each other": rows that are written are read back, zeros past their count, from as many bytes as were filled
pub radio-reads-back : {r : Rows} {before after : List ℕ} {w : Written} → WroteRadio r before after w → w.refusal ≡ 0
    → (a : Radio) → a ≡ radio_reading (take w.length after) → (a.refusal ≡ 0) × (a.rows ≡ make_rows (rows_of r))
radio-reads-back p z a e = rw (e ∙ RadioRecord.wrote-reads p z) (refl, refl)

-- and rows that are read are written as that record, byte for byte, wherever there is room for it
pub radio-writes-back : (m : List ℕ) → all is_byte m ≡ true → (a : Radio) → a ≡ radio_reading m → a.refusal ≡ 0
    → {before after : List ℕ} {w : Written} → length m ≤ length before → WroteRadio a.rows before after w → (w.refusal ≡ 0) × (take w.length after ≡ m)
radio-writes-back m b a e z {before} {after} {w} room p =
    let q = RadioRecord.read-wrote m b (ap (λ (x : Radio). x.refusal) (sym e) ∙ z) room (subst (λ (x : Radio). WroteRadio x.rows before after w) e p) in
    (ap (λ (v : Written). v.refusal) q.0, q.1)

-- "one list of rows has one record": no other bytes are read as those rows
pub one-record : (m : List ℕ) → all is_byte m ≡ true → (a : Radio) → a ≡ radio_reading m → (rows : List Row) → sendable rows ≡ true
    → (m ≡ radio_record rows) ↔ (a ≡ record { refusal = 0; rows = make_rows rows })
one-record m b a e rows h = rw e (RadioRecord.reads-exactly m b rows h)

-- and two lists have two
pub two_records : (a b : List Row) → sendable a ≡ true → sendable b ≡ true → radio_record a ≡ radio_record b → a ≡ b
two_records = RadioRecord.one_list

-- what is read is the record of 1 to 8 valid rows, no runway twice, and each such record is read
pub radio-taken-exactly : (m : List ℕ) → all is_byte m ≡ true → (a : Radio) → a ≡ radio_reading m
    → (a.refusal ≡ 0) ↔ ((rows : List Row) × (sendable rows ≡ true) × (m ≡ radio_record rows))
radio-taken-exactly m b a e = rw e (RadioRecord.takes-exactly m b)

-- "the first met from the left": a refusal other than 30 stays whatever bytes follow, and every beginning of a record that is read is 30
pub radio-first-met : (m k : List ℕ) (a b : Radio) → a ≡ radio_reading m → b ≡ radio_reading (m ++ k) → (a.refusal ≡ 0 → ⊥) → (a.refusal ≡ cut_short → ⊥)
    → b.refusal ≡ a.refusal
radio-first-met m k a b e f z h =
    rw (e, f) (RadioRecord.left-first m k (λ y. z (ap (λ (x : Radio). x.refusal) e ∙ y)) (λ y. h (ap (λ (x : Radio). x.refusal) e ∙ y)))

pub radio-cut : (m : List ℕ) (x : ℕ) (k : List ℕ) (a b : Radio) → a ≡ radio_reading m → b ≡ radio_reading (m ++ (x ∷ k)) → b.refusal ≡ 0 → a.refusal ≡ cut_short
radio-cut m x k a b e f z = rw e (RadioRecord.cut_short m x k (ap (λ (y : Radio). y.refusal) (sym f) ∙ z))

-- rows that a notice may have are written, if there is room for their record
pub radio-written : {r : Rows} {before after : List ℕ} {w : Written} → WroteRadio r before after w → is_count r.count ≡ true → sendable (rows_of r) ≡ true
    → length (radio_record (rows_of r)) ≤ length before → w.refusal ≡ 0
radio-written = RadioRecord.sends-all

-- "14" comes only where the buffer is shorter than the record, and never from 161 bytes on
pub radio-room : {r : Rows} {before after : List ℕ} {w : Written} → WroteRadio r before after w → w.refusal ≡ buffer_too_short
    → (length before < length (radio_record (rows_of r))) × (length before < longest)
radio-room {r} {before} p e = ((RadioRecord.too_short p e).1, RadioRecord.below-longest p e)

-- ---- Request 11: a notice carries its board

-- "a notice written from a board with at least one report, read back, its rows given in any order to a fresh board with the same aerodrome, runways and desk
-- owners, each row by its own desk, restores that board exactly, stored time included": `write_board` into any buffer in which there is room, `read` of as many
-- bytes as it answered, `open`, and `report` or another call that takes a report, for each row; nothing is refused, so each desk is answered 0
pub board-restored : {b : Board} {d : Details} {i : Items} {l : Language} {before after : List ℕ} {w : Written} → WroteBoard b d i l before after w → w.refusal ≡ 0
    → (a : Reading) → a ≡ reading (take w.length after)
    → (o : Answer) → o ≡ opening b.aerodrome b.count b.runways b.owners
    → (rows : List Row) → Permᴰ rows (rows_of a.«record».rows)
    → {c : Board} (k : Calls report_of o.board (map (by_owner o.board) rows) c)
    → (a.refusal ≡ 0) × (o.refusal ≡ 0) × (c ≡ b) × ((n : ℕ) → all is_zero (answers_of n k) ≡ true)
board-restored {b} p z a e o f rows moved {c} k =
    let opens = f ∙ Board.opens b.aerodrome b.count b.runways b.owners (opens-anew b (BoardNotice.board-was p z).0) in
    let fresh = ap (λ (x : Answer). x.board) opens in
    let read = subst (λ (x : Reading). Permᴰ rows (rows_of x.«record».rows)) e moved in (
      ap (λ (x : Reading). x.refusal) (e ∙ BoardNotice.board-back p z),
      ap (λ (x : Answer). x.refusal) opens,
      are-reports k ∙ (ap (λ x. reports x (map (by_owner x) rows)) fresh ∙ BoardNotice.carries p z rows read),
      λ n. ap (all is_zero) (are-answers n k ∙ ap (λ x. answers_to n x (map (by_owner x) rows)) fresh) ∙ BoardNotice.carries-taken p z rows read n,
    )

-- and writing is not refused: every board that keeps its rules and shows a row is written, with the details, items and plain language of any valid record, in 4,096 bytes
pub board-written : {b : Board} → valid_board b ≡ true → is_empty (reported b.rows) ≡ false → (r : Record) → valid_record r ≡ true → {before after : List ℕ} {w : Written}
    → 4096 ≤ length before → WroteBoard b (details_of r) r.items r.language before after w → w.refusal ≡ 0
board-written {b} v some r h {before} room p =
    let n = Notice.never-too-long (board_record b (details_of r) r.items r.language) (board-record b v some r h) in
    ap (λ (x : Written). x.refusal) p.answer ∙ BoardNotice.board-writes b v some r h (length before) (omega arith)
