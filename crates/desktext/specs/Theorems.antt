-- An input in pieces gives the text of the whole input; what the desk prints at the end, how long its text is, and what a buffer with room for it holds.
use Rattle.std.specs.Prelude.{ℕ, zero, suc, ◌+◌, ◌*◌, ◌≤◌, ◌≡◌, refl, cond, Bool, true, false, eqb, length, drop}
use Rattle.std.proofs.Math.Path.{sym}
use Rattle.std.proofs.Common.{◌∙◌, ap, arith, length-append}
use mathlib.Core.List.{List, [], ◌∷◌, ◌++◌, append_assoc, flatten}
use Rattle.std.proofs.Math.ListN.{get_or}
use Rattle.text.specs.Lines.{push, is_return, lines}
use Rattle.text.specs.Piece.{bytes}
use Rattle.text.specs.Put.{Put}
use Rattle.text.specs.Laws.Put.{whole-put, measured}
use Rattle.text.specs.Laws.Sizes.{size, number_size}
use Rattle.board.specs.declared.Board.{Board}
use Rattle.desktext.specs.Laws.Desk.{shown-size, line-opens, no-opening, ReportsTold, lines-report}
use Rattle.desktext.specs.Line.{opening_line, report_line}
use Rattle.board.specs.Board.{places, blank_board, answer}
use Rattle.board.specs.declared.Sent.{Sent}
use Rattle.board.specs.Report.{row_at, owner_at}
use Rattle.board.specs.Laws.Alone.{Alike, alike_self}
use Rattle.board.specs.Laws.Demand.{opened-fresh}
use Rattle.board.specs.Runs.{reports}
use Rattle.desktext.specs.Desk.{printed, answer_line, shown_rows, answers_text, refused_text, lines_text, desk_text, report_lines, desk_board}
use Rattle.desktext.specs.declared.Standing.{Standing}
use Rattle.desktext.specs.declared.Standing.TheVariants.{Waiting, Keeping, Over}
use Rattle.desktext.specs.declared.State.{State}
use Rattle.desktext.specs.Pieces.{line_answer, end_answer, start_state, begun, without_return, after_byte, byte_answer}
use Rattle.desktext.specs.Pieces.{fed_text, last_standing, last_text, finish_text, pieces_text}
use Rattle.desktext.specs.Desks.{lines_from, lines_answered}
use Rattle.desktext.specs.Laws.Desks.{lines-alone, board-alone, owners-stay}
use Rattle.desktext.specs.Laws.Pieces.{pieces_whole}
use Rattle.desktext.specs.Laws.Line.{Opens}

-- feeding any list of pieces and then the end prints what the desk prints for all of them as one input
pub pieces : (ps : List (List ℕ)) → pieces_text start_state ps ≡ desk_text (flatten ps)
pieces = pieces_whole

-- the answers to row lines, one a line
unfoldable pub answer_lines : Board → List (List ℕ) → List ℕ
answer_lines b [] = []
answer_lines b (l ∷ ls) = answer_line (report_line b l).refusal ++ answer_lines (report_line b l).board ls

-- behind them stand the rows that the board shows after the reports told
answers-shown : (b : Board) (ls : List (List ℕ)) → answers_text b ls ≡ answer_lines b ls ++ shown_rows places (report_lines b ls)
unfolding answers_text answer_lines report_lines
answers-shown b [] = refl
answers-shown b (l ∷ ls) = rw (append_assoc, answers-shown (report_line b l).board ls)

-- so of an input whose first line opens the board b and whose other lines tell the reports xs the desk prints `OPEN`, the answers, and what `reports b xs`
-- shows
pub desk-prints : (m l : List ℕ) (ls : List (List ℕ)) (b : Board) (xs : List Sent) → lines m ≡ l ∷ ls → opening_line l ≡ answer 0 b → ReportsTold ls xs
    → desk_text m ≡ printed (bytes "OPEN") ++ (answer_lines b ls ++ shown_rows places (reports b xs))
unfolding desk_text
desk-prints m l ls b xs e o t = rw (e, o, answers-shown b ls, lines-report b t)

-- and keeps that board
pub desk-keeps : (m l : List ℕ) (ls : List (List ℕ)) (b : Board) (xs : List Sent) → lines m ≡ l ∷ ls → opening_line l ≡ answer 0 b → ReportsTold ls xs
    → desk_board m ≡ reports b xs
unfolding desk_board
desk-keeps m l ls b xs e o t = rw (e, o) (lines-report b t)

-- where the first line opens none it keeps the blank one
pub keeps-none : (m l : List ℕ) (ls : List (List ℕ)) → lines m ≡ l ∷ ls → ((b : Board) → Opens l b → ⊥) → desk_board m ≡ blank_board
unfolding desk_board
keeps-none m l ls e none = rw (e, no-opening l none)

-- "Two runs in which only the other desk's reports differ", said of inputs: the first line opens one board, and the lines of the desk d are the same, whatever
-- stands on the others; then its lines get the same answers, and its places hold the same rows
module _ (l : List ℕ) (b : Board) (opened : opening_line l ≡ answer 0 b) (d : ℕ) (ls ms : List (List ℕ)) (same : lines_from d ls ≡ lines_from d ms) where
  start : Alike d b b
  start = alike_self d b (let o = (line-opens l b).0 opened in (opened-fresh o.aerodrome o.count o.runways o.owners b o.opened).1)

  pub line-answers : lines_answered d b ls ≡ lines_answered d b ms
  line-answers = lines-alone d ls b b start ∙ (ap (lines_answered d b) same ∙ sym (lines-alone d ms b b start))

  pub line-rows : (m k : List ℕ) → lines m ≡ l ∷ ls → lines k ≡ l ∷ ms → (i : ℕ) → owner_at b i ≡ d → row_at (desk_board m) i ≡ row_at (desk_board k) i
  unfolding desk_board
  line-rows m k e f i o = rw (e, f, opened) (alone ls ∙ (ap (λ x. row_at (report_lines b x) i) same ∙ sym (alone ms)))
    where
      alone : (zs : List (List ℕ)) → row_at (report_lines b zs) i ≡ row_at (report_lines b (lines_from d zs)) i
      alone zs = let s = board-alone d zs b b start in s.rows i (ap (λ os. get_or os i 0) (owners-stay zs b) ∙ o)

-- no more lines than bytes
lines-few : (m : List ℕ) → length (lines m) ≤ length m
unfolding lines
lines-few [] = omega arith
lines-few (x ∷ m) = go (eqb x 10) (is_return x m) (lines m) (lines-few m)
  where
    go : (a b : Bool) (ls : List (List ℕ)) → length ls ≤ length m → length (cond a ([] ∷ ls) (cond b ls (push x ls))) ≤ suc (length m)
    go true b ls h = omega arith
    go false true ls h = omega arith
    go false false [] h = omega arith
    go false false (l ∷ ls) h = omega arith

-- two digits and LF
answer-size : (n : ℕ) → length (answer_line n) ≤ 3
unfolding answer_line size
answer-size n = rw length-append (omega (arith, number_size 1 n))

rows-size : (n : ℕ) (b : Board) → length (shown_rows n b) ≤ 148 * n
unfolding shown_rows
rows-size zero b = omega arith
rows-size (suc n) b = rw length-append (omega (arith, rows-size n b, shown-size (row_at b n)))

answers-size : (b : Board) (ls : List (List ℕ)) → length (answers_text b ls) ≤ 3 * length ls + 1184
unfolding answers_text
answers-size b [] = omega (arith, rows-size 8 b)
answers-size b (l ∷ ls) = rw length-append (omega (arith, answer-size (report_line b l).refusal, answers-size (report_line b l).board ls))

-- "OPEN", three bytes for each further line, and eight rows of 148 bytes
pub desk-size : (m : List ℕ) → length (desk_text m) ≤ 3 * length m + 1186
unfolding desk_text
desk-size m = go (lines m) (lines-few m)
  where
    opened : (k : Bool) (b : Board) (ls : List (List ℕ)) → length (cond k (printed (bytes "OPEN") ++ answers_text b ls) refused_text) ≤ 3 * length ls + 1189
    opened true b ls = rw length-append (omega (arith, answers-size b ls))
    opened false b ls = omega arith

    go : (ls : List (List ℕ)) → length ls ≤ length m → length (lines_text ls) ≤ 3 * length m + 1186
    go [] h = omega arith
    go (l ∷ ls) h = omega (arith, opened (eqb (opening_line l).refusal 0) (opening_line l).board ls)

-- so a buffer of that size holds the whole text, and its length is told
pub desk-whole : (m : List ℕ) {b x : List ℕ} {r : ℕ} → 3 * length m + 1186 ≤ length b → Put 0 (desk_text m) b x r
    → (r ≡ length (desk_text m)) × (x ≡ desk_text m ++ drop (length (desk_text m)) b)
desk-whole m h p = whole-put p (omega (arith, desk-size m))

-- a line is answered by at most 11 bytes, "REFUSED 17" with its LF
line-most : (d : Standing) (l : List ℕ) → length (line_answer d l) ≤ 11
unfolding line_answer
line-most Waiting l = go (eqb (opening_line l).refusal 0)
  where
    go : (o : Bool) → length (cond o (printed (bytes "OPEN")) refused_text) ≤ 11
    go true = omega arith
    go false = omega arith
line-most (Keeping b) l = let h = answer-size (report_line b l).refusal in omega arith
line-most Over l = omega arith

-- so a piece by at most 11 for each of its bytes
pub fed-size : (m : List ℕ) (s : State) → length (fed_text s m) ≤ 11 * length m
unfolding fed_text byte_answer
fed-size [] s = omega arith
fed-size (x ∷ m) s = rw length-append (omega (arith, go (eqb x 10), fed-size m (after_byte s x)))
  where
    go : (t : Bool) → length (cond t (line_answer s.standing (without_return (begun s))) []) ≤ 11
    go true = line-most s.standing (without_return (begun s))
    go false = omega arith

end-most : (d : Standing) → length (end_answer d) ≤ 1184
unfolding end_answer
end-most Waiting = omega arith
end-most (Keeping b) = rows-size 8 b
end-most Over = omega arith

-- and the end by a last line's answer and eight rows
pub finish-size : (s : State) → length (finish_text s) ≤ 1195
unfolding finish_text last_text
finish-size s = rw length-append (omega (arith, go (eqb s.count 0), end-most (last_standing s)))
  where
    go : (t : Bool) → length (cond t [] (line_answer s.standing (begun s))) ≤ 11
    go true = omega arith
    go false = line-most s.standing (begun s)

-- and both are told, so that a caller with room for them gets them whole
pub fed-told : (m : List ℕ) (s : State) {b x : List ℕ} {r : ℕ} → 11 * length m ≤ 65536 → Put 0 (fed_text s m) b x r → r ≤ 11 * length m
fed-told m s h p = let z = fed-size m s in let e = measured p (omega arith) in omega arith

pub finish-told : (s : State) {b x : List ℕ} {r : ℕ} → Put 0 (finish_text s) b x r → r ≤ 1195
finish-told s p = let z = finish-size s in let e = measured p (omega arith) in omega arith
