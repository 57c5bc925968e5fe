-- What the desk program prints for a whole input: document 01, "The board".
use Rattle.std.specs.Prelude.{ℕ, zero, suc, List, [], ◌∷◌, ◌++◌, eqb, cond}
use Rattle.text.specs.Piece.{bytes, canonical}
use Rattle.text.specs.Numbers.{number}
use Rattle.text.specs.Lines.{lines}
use Rattle.board.specs.declared.Board.{Board}
use Rattle.board.specs.declared.Answer.{Answer}
use Rattle.board.specs.Board.{places, blank_board}
use Rattle.board.specs.Report.{row_at}
use Rattle.desktext.specs.Line.{opening_line, report_line, shown_text}

-- what is printed stands on a line of its own
abbrev pub printed : List ℕ → List ℕ
printed t = t ++ (10 ∷ [])

-- a refusal number, or 0: one digit, two from 10 on
unfoldable pub answer_line : ℕ → List ℕ
answer_line n = printed (canonical (number 1 n))

-- "the rows shown, in board order, one a line": those of the first n places
unfoldable pub shown_rows : ℕ → Board → List ℕ
shown_rows zero b = []
shown_rows (suc n) b = shown_rows n b ++ shown_text (row_at b n)

-- "for each row line 0 or the refusal number ..; at the end the rows shown"
unfoldable pub answers_text : Board → List (List ℕ) → List ℕ
answers_text b [] = shown_rows places b
answers_text b (l ∷ ls) = answer_line (report_line b l).refusal ++ answers_text (report_line b l).board ls

-- "`REFUSED 17` and stops"
abbrev pub refused_text : List ℕ
refused_text = printed (bytes "REFUSED 17")

-- "It prints `OPEN`, or `REFUSED 17` and stops"
abbrev pub opened_text : Answer → List (List ℕ) → List ℕ
opened_text a ls = cond (eqb a.refusal 0) (printed (bytes "OPEN") ++ answers_text a.board ls) refused_text

-- "a line with the aerodrome and the runways, then one runway row a line"; no line opens nothing
abbrev pub lines_text : List (List ℕ) → List ℕ
lines_text [] = refused_text
lines_text (l ∷ ls) = opened_text (opening_line l) ls

-- all that the desk program prints
unfoldable pub desk_text : List ℕ → List ℕ
desk_text input = lines_text (lines input)

-- the board after row lines, one by one
unfoldable pub report_lines : Board → List (List ℕ) → Board
report_lines b [] = b
report_lines b (l ∷ ls) = report_lines (report_line b l).board ls

-- a refused opening stops the desk
abbrev pub opened_board : Answer → List (List ℕ) → Board
opened_board a ls = cond (eqb a.refusal 0) (report_lines a.board ls) a.board

-- no line opens nothing
abbrev pub lines_board : List (List ℕ) → Board
lines_board [] = blank_board
lines_board (l ∷ ls) = opened_board (opening_line l) ls

-- the board that the desk program keeps after a whole input
unfoldable pub desk_board : List ℕ → Board
desk_board input = lines_board (lines input)
