-- The lines of the desk: "a line with the aerodrome and the runways, parted by one space and ended as in freedom (a), then one runway row a line"; with two
-- desks "runways end in `/1` or `/2`; its input rows start with one digit, the desk, and one space".
use Rattle.std.specs.Prelude.{ℕ, List, [], ◌∷◌, Option, None, Some, map, leb, length, cond}
use Rattle.text.specs.Piece.{Piece, byte, bytes, end, canonical, spell, verbatim, lay_all, ◌then◌}
use Rattle.text.specs.Read.{Got, misfit, got, whole, read_seq, read_after, read_as, read_many}
use Rattle.text.specs.Names.{read_count, is_space}
use Rattle.text.specs.Numbers.{digits, read_digits}
use Rattle.text.specs.Arrays.{pad}
use Rattle.runway.specs.Runway.{read_runway, runway_pieces}
use Rattle.row.specs.declared.Row.{Row}
use Rattle.row.specs.Row.{valid_row}
use Rattle.rowtext.specs.Text.{row_pieces}
use Rattle.rowtext.specs.Reading.{find_row}
use Rattle.text.specs.Refusals.{no_row}
use Rattle.frontlines.specs.Heading.{read_aerodrome}
use Rattle.text.specs.Lines.{longest}
use Rattle.text.specs.Out.{Out, refuse, taken}
use Rattle.board.specs.declared.Runway.{Runway}
use Rattle.board.specs.declared.Board.{Board}
use Rattle.board.specs.declared.Answer.{Answer}
use Rattle.desktext.specs.declared.RunwayList.{RunwayList}
use Rattle.board.specs.Board.{places, blank_runway, answer, opening, refused_opening}
use Rattle.board.specs.Report.{report}

-- "parted by one space": exactly one, so it is a byte and no gap
abbrev pub spaced_pieces : Runway → List Piece
spaced_pieces w = byte 32 ∷ runway_pieces w.number w.side

-- a runway behind one space
unfoldable pub read_spaced : List ℕ → Got (ℕ × ℕ)
read_spaced = read_as (λ p. p.1) (read_seq (read_count is_space 1) read_runway)

-- the runway of a number and a side
abbrev pub make_runway : ℕ × ℕ → Runway
make_runway p = record { number = p.0; side = p.1 }

-- "runways end in `/1` or `/2`": the owner's digit, joined to the runway
unfoldable pub read_owner : List ℕ → Got ℕ
read_owner = read_after (bytes "/") (read_digits 1)

-- a runway behind one space, and its owner
unfoldable pub read_owned : List ℕ → Got (Runway × ℕ)
read_owned = read_seq (read_as make_runway read_spaced) read_owner

-- its text
abbrev pub owned_pieces : Runway × ℕ → List Piece
owned_pieces p = spaced_pieces p.0 then spell (bytes "/") then digits 1 p.1

-- runways with their owners
abbrev pub with_owners : List Runway → List ℕ → List (Runway × ℕ)
with_owners [] os = []
with_owners (w ∷ ws) [] = []
with_owners (w ∷ ws) (o ∷ os) = (w, o) ∷ with_owners ws os

-- "the aerodrome and the runways"
unfoldable pub opening_pieces : List ℕ → List (Runway × ℕ) → List Piece
opening_pieces aerodrome ps = verbatim aerodrome then lay_all owned_pieces ps

-- up to eight of them
abbrev pub read_runways : List ℕ → Got (List (Runway × ℕ))
read_runways = read_many read_owned places

-- the aerodrome and the runways
unfoldable pub read_opening : List ℕ → Got (List ℕ × List (Runway × ℕ))
read_opening = read_seq read_aerodrome read_runways

-- runways and owners in their arrays, zeros behind
abbrev pub list_of : List (Runway × ℕ) → RunwayList
list_of ps = record { count = length ps; runways = pad places blank_runway (map (λ p. p.0) ps); owners = pad places 0 (map (λ p. p.1) ps) }

-- nothing where they do not fit
abbrev pub list_found : Got (List (Runway × ℕ)) → Option RunwayList
list_found misfit = None
list_found (got ps r) = Some (list_of ps)

-- opening with a list
abbrev pub opening_with : List ℕ → RunwayList → Answer
opening_with aerodrome l = opening aerodrome l.count l.runways l.owners

-- a line that does not fit is refused as a wrong list is
abbrev pub opening_read : Got (List ℕ × List (Runway × ℕ)) → Answer
opening_read misfit = refused_opening
opening_read (got p r) = opening_with p.0 (list_of p.1)

-- the answer to an opening line
unfoldable pub opening_line : List ℕ → Answer
opening_line line = opening_read (whole (read_opening line))

-- "its input rows start with one digit, the desk, and one space"
abbrev pub sender_pieces : ℕ → List Piece
sender_pieces d = digits 1 d then (byte 32 ∷ [])

-- the desk, and the rest of the line
unfoldable pub read_sender : List ℕ → Got ℕ
read_sender = read_as (λ p. p.0) (read_seq (read_digits 1) (read_count is_space 1))

-- "5 where the line is no row under freedoms (a), (b) and (d)": "with no row after it, 5 comes before all others"; request 2, by the group at fault:
-- "The desk program prints these too."
abbrev pub report_read : Board → ℕ → Out Row → Answer
report_read b desk (refuse n left) = answer n b
report_read b desk (taken r) = report b desk r

-- "without that start" 5
abbrev pub report_started : Board → Got ℕ → Answer
report_started b misfit = answer no_row b
report_started b (got desk rest) = report_read b desk (find_row rest)

-- "or is over 4,096 bytes", digit and space included
unfoldable pub report_line : Board → List ℕ → Answer
report_line b line = cond (leb (length line) longest) (report_started b (read_sender line)) (answer no_row b)

-- "at the end the rows shown, in board order, one a line": zeros, and all that is no valid row, have none
unfoldable pub shown_text : Row → List ℕ
shown_text r = cond (valid_row r) (canonical (row_pieces r then (end ∷ []))) []
