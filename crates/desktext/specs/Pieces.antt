-- The desk whose input arrives in pieces of any size: what is kept between two of them, and what is printed for each.
use Rattle.std.specs.Prelude.{ℕ, suc, ◌+◌, List, [], ◌∷◌, ◌++◌, cond, eqb, ltb, take, set, replicate}
use Rattle.text.specs.Piece.{bytes}
use Rattle.text.specs.Lines.{longest}
use Rattle.board.specs.declared.Board.{Board}
use Rattle.board.specs.declared.Answer.{Answer}
use Rattle.board.specs.Board.{places, blank_board}
use Rattle.desktext.specs.declared.Standing.{Standing}
use Rattle.desktext.specs.declared.Standing.TheVariants.{Waiting, Keeping, Over}
use Rattle.desktext.specs.declared.State.{State}
use Rattle.desktext.specs.Line.{opening_line, report_line}
use Rattle.desktext.specs.Desk.{printed, answer_line, shown_rows, refused_text}

-- "`OPEN`, or `REFUSED 17` and stops": the desk after its first line
abbrev pub opened_standing : Answer → Standing
opened_standing a = cond (eqb a.refusal 0) (Keeping a.board) Over

-- and what it prints
abbrev pub opened_line : Answer → List ℕ
opened_line a = cond (eqb a.refusal 0) (printed (bytes "OPEN")) refused_text

-- the desk after a line: the first opens the board, every other is a report; one whose opening was refused takes none
unfoldable pub after_line : Standing → List ℕ → Standing
after_line Waiting l = opened_standing (opening_line l)
after_line (Keeping b) l = Keeping (report_line b l).board
after_line Over l = Over

-- what it prints for the line
unfoldable pub line_answer : Standing → List ℕ → List ℕ
line_answer Waiting l = opened_line (opening_line l)
line_answer (Keeping b) l = answer_line (report_line b l).refusal
line_answer Over l = []

-- what it prints at the end of its input: no line opens nothing, and a board's rows are shown
unfoldable pub end_answer : Standing → List ℕ
end_answer Waiting = refused_text
end_answer (Keeping b) = shown_rows places b
end_answer Over = []

-- the board that it keeps, blank where none is opened
abbrev pub board_of : Standing → Board
board_of Waiting = blank_board
board_of (Keeping b) = b
board_of Over = blank_board

-- how much of a line is kept: 4,096 bytes, the CR that may end it, and one that tells it to be over-long
abbrev pub most_kept : ℕ
most_kept = suc (suc longest)

-- before the first piece
abbrev pub start_state : State
start_state = record { standing = Waiting; held = replicate most_kept 0; count = 0 }

-- the bytes of the line that has not ended yet
abbrev pub begun : State → List ℕ
begun s = take s.count s.held

-- one byte more of it, as far as it is kept
abbrev pub kept_byte : State → ℕ → State
kept_byte s x = cond (ltb s.count most_kept) (record { standing = s.standing; held = set s.held s.count x; count = s.count + 1 }) s

-- the line without the CR that is part of its end
unfoldable pub without_return : List ℕ → List ℕ
without_return [] = []
without_return (x ∷ []) = cond (eqb x 13) [] (x ∷ [])
without_return (x ∷ y ∷ l) = x ∷ without_return (y ∷ l)

-- an LF ends the line, and so does CR LF; any other byte is one of the line
unfoldable pub after_byte : State → ℕ → State
after_byte s x = cond (eqb x 10) (record { standing = after_line s.standing (without_return (begun s)); held = s.held; count = 0 }) (kept_byte s x)

-- what is printed for the byte: the answer to the line that it ends
unfoldable pub byte_answer : State → ℕ → List ℕ
byte_answer s x = cond (eqb x 10) (line_answer s.standing (without_return (begun s))) []

-- after a piece, byte by byte
unfoldable pub fed_state : State → List ℕ → State
fed_state s [] = s
fed_state s (x ∷ m) = fed_state (after_byte s x) m

-- what is printed for a piece
unfoldable pub fed_text : State → List ℕ → List ℕ
fed_text s [] = []
fed_text s (x ∷ m) = byte_answer s x ++ fed_text (after_byte s x) m

-- the desk after a last line that lacks its end
unfoldable pub last_standing : State → Standing
last_standing s = cond (eqb s.count 0) s.standing (after_line s.standing (begun s))

-- what it prints for that line
unfoldable pub last_text : State → List ℕ
last_text s = cond (eqb s.count 0) [] (line_answer s.standing (begun s))

-- what is printed at the end of the input
unfoldable pub finish_text : State → List ℕ
finish_text s = last_text s ++ end_answer (last_standing s)

-- all that is printed for pieces, one after the other, and then the end
unfoldable pub pieces_text : State → List (List ℕ) → List ℕ
pieces_text s [] = finish_text s
pieces_text s (p ∷ ps) = fed_text s p ++ pieces_text (fed_state s p) ps
