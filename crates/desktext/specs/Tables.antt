-- The desk by computation, from inputs and outputs written down by hand from document 01.
use Rattle.std.specs.Prelude.{ℕ, ◌≡◌, refl, map, replicate}
use Prim.Native.String.{String}
use mathlib.Core.List.{List, [], ◌∷◌, ◌++◌, flatten}
use Rattle.text.specs.Choice.{◌and◌}
use Rattle.text.specs.Lines.{lines}
use Rattle.text.specs.Piece.{bytes, spell}
use Rattle.text.specs.Read.{skip, read_text, read_many}
use Rattle.text.specs.Names.{read_name, read_count}
use Rattle.text.specs.Numbers.{digits, read_digits}
use Rattle.runway.specs.Time.{is_short_month, days_of, real_day, real_clock, real_time, later}
use Rattle.runway.specs.Runway.{valid_runway}
use Rattle.surface.specs.Descriptions.{is_contaminant, is_deep}
use Rattle.surface.specs.Third.{is_blank_third, is_coverage, valid_coverage, least_depth, is_reported, valid_depth, valid_third}
use Rattle.thirds.specs.Groups.{measure_pieces, read_measure, read_coverage, read_description, third_pieces, read_third, read_group}
use Rattle.row.specs.Row.{three_that, is_blank_row, valid_row, is_bare, is_six, is_dry, is_short}
use Rattle.rowtext.specs.Text.{middle_pieces, width_pieces, row_pieces}
use Rattle.rowtext.specs.Reading.{parted, may_cover, may_lie, read_width, time_group, runway_group, code_group, coverage_group, depth_group, description_group}
use Rattle.rowtext.specs.Reading.{width_group, short, find_row}
use Rattle.frontlines.specs.Letters.{is_letters}
use Rattle.frontlines.specs.Heading.{read_aerodrome}
use Rattle.board.specs.Board.{is_blank_runway, comes_before, rises, rising, is_aerodrome, valid_list, names, fits_place, fit_places, valid_places, is_desk, valid_owners}
use Rattle.body.specs.Rows.{latest_of, latest_from, latest}
use Rattle.board.specs.Board.{reported, latest_shown, valid_opening, valid_board, blank_board, opening}
use Rattle.board.specs.Tables.{board, holding, left}
use Rattle.board.specs.Report.{place_of, is_news, refusal, newest, report}
use Rattle.desktext.specs.Line.{read_spaced, read_owner, read_owned, read_opening, opening_line, read_sender, report_line, shown_text}
use Rattle.desktext.specs.Desk.{answer_line, shown_rows, answers_text, desk_text, report_lines, desk_board}
use Rattle.desktext.specs.declared.Standing.TheVariants.{Waiting, Keeping, Over}
use Rattle.desktext.specs.Pieces.{board_of, most_kept, start_state, after_line, line_answer, end_answer, without_return, after_byte, byte_answer}
use Rattle.desktext.specs.Pieces.{fed_state, fed_text, last_standing, last_text, finish_text, pieces_text}
use Rattle.desktext.specs.Theorems.{pieces as whole}

-- lines, each ended by LF
abbrev text : List String → List ℕ
text [] = []
text (s ∷ ss) = bytes s ++ (10 ∷ text ss)

-- what is printed for pieces, and then the end
abbrev fed : List (List ℕ) → List ℕ
fed ps = pieces_text start_state ps

-- a row with n spaces behind its time, ended by CR LF, and an empty line
abbrev spaced : ℕ → List (List ℕ)
spaced n = text ("XQAA 07L/1" ∷ []) ∷ (bytes "1 01120610" ++ replicate n 32) ∷ (bytes "07L 6/6/6 DRY/DRY/DRY" ++ (13 ∷ 10 ∷ 10 ∷ [])) ∷ []

-- a night shift's input, and what the desk prints for it
abbrev pub night_shift : List ℕ
night_shift = text ("XQAA 07L/1" ∷ "1 12312350 07L 6/6/6 DRY/DRY/DRY" ∷ "1 01010010 07L 5/5/5 100/75/50 NR/NR/NR FROST/FROST/FROST"
    ∷ "1 12312350 07L 6/6/6 DRY/DRY/DRY" ∷ [])

abbrev pub night_shown : List ℕ
night_shown = text ("OPEN" ∷ "0" ∷ "0" ∷ "20" ∷ "01010010 07L 5/5/5 100/75/50 NR/NR/NR FROST/FROST/FROST" ∷ [])

pub record Inputs : Type 0 where
  pub new-year : desk_text night_shift ≡ night_shown
  -- two reports, and one that is not later than the row shown
  reports : desk_text (text ("XQAA 07L/1 07R/2" ∷ "1 01120610 07L 3/5/5 75/25/NR 12/NR/NR DRY SNOW/FROST/DRY"
      ∷ "2 01120640 07R  6/6/6 NR/NR/NR NR/NR/NR DRY/DRY/DRY" ∷ "1 01120610 07L 6/6/6 DRY/DRY/DRY" ∷ []))
      ≡ text ("OPEN" ∷ "0" ∷ "0" ∷ "20" ∷ "01120610 07L 3/5/5 75/25/NR 12/NR/NR DRY SNOW/FROST/DRY" ∷ "01120640 07R 6/6/6 DRY/DRY/DRY" ∷ [])
  -- the rows are shown in board order, whatever their times and the order of the reports
  order : desk_text (text ("XQAA 07L/1 07R/2" ∷ "2 01120610 07R 6/6/6 DRY/DRY/DRY" ∷ "1 01120640 07L 6/6/6 DRY/DRY/DRY" ∷ []))
      ≡ text ("OPEN" ∷ "0" ∷ "0" ∷ "01120640 07L 6/6/6 DRY/DRY/DRY" ∷ "01120610 07R 6/6/6 DRY/DRY/DRY" ∷ [])
  -- an opening that is refused: nothing else is printed
  refused : desk_text (text ("XQAA 07L/1  07R/2" ∷ "1 01120610 07L 6/6/6 DRY/DRY/DRY" ∷ [])) ≡ text ("REFUSED 17" ∷ [])
  empty : desk_text [] ≡ text ("REFUSED 17" ∷ [])
  blank : desk_text (text ("" ∷ "XQAA 07L/1" ∷ [])) ≡ text ("REFUSED 17" ∷ [])
  -- the first line and the last may lack their end
  unended : desk_text (bytes "XQAA 07L/1") ≡ text ("OPEN" ∷ [])
  last : desk_text (text ("XQAA 07L/1" ∷ []) ++ bytes "1 01120610 07L 6/6/6 DRY/DRY/DRY") ≡ text ("OPEN" ∷ "0" ∷ "01120610 07L 6/6/6 DRY/DRY/DRY" ∷ [])
  -- every further line is a row line; CR LF ends it as LF does; with no row taken nothing is shown
  lines : desk_text (bytes "XQAA 07L/1" ++ (13 ∷ 10 ∷ []) ++ text ("" ∷ "2 01120610 07R 6/6/6 DRY/DRY/DRY" ∷ "1 01120610 07L 6/6/6 DRY/DRY/DRY)" ∷ []))
      ≡ text ("OPEN" ∷ "5" ∷ "18" ∷ "26" ∷ [])
  -- in pieces: none, and empty ones
  no-piece : fed [] ≡ text ("REFUSED 17" ∷ [])
  empty-pieces : fed ([] ∷ bytes "XQAA 0" ∷ [] ∷ bytes "7L/1" ∷ []) ≡ text ("OPEN" ∷ [])
  -- a CR LF in two pieces, and one that is cut from its line
  return-cut : fed ((bytes "XQAA 07L/1" ++ (13 ∷ [])) ∷ (10 ∷ bytes "1 01120610 07L 6/6/6 DRY") ∷ bytes "/DRY/DRY" ∷ (13 ∷ 10 ∷ []) ∷ [])
      ≡ text ("OPEN" ∷ "0" ∷ "01120610 07L 6/6/6 DRY/DRY/DRY" ∷ [])
  -- a CR that no LF follows is text: on the first line, and on a row line that lacks its end
  return_alone : fed (bytes "XQAA 07L/1" ∷ (13 ∷ []) ∷ []) ∷ fed (text ("XQAA 07L/1" ∷ []) ∷ bytes "1 01120610 07L 6/6/6 DRY/DRY/DRY" ∷ (13 ∷ []) ∷ []) ∷ []
      ≡ text ("REFUSED 17" ∷ []) ∷ text ("OPEN" ∷ "26" ∷ []) ∷ []
  -- the last line lacks its end
  last-in-pieces : fed (text ("XQAA 07L/1" ∷ []) ∷ bytes "1 01120610 07L 6/6/6 DRY" ∷ bytes "/DRY/DRY" ∷ [])
      ≡ text ("OPEN" ∷ "0" ∷ "01120610 07L 6/6/6 DRY/DRY/DRY" ∷ [])
  -- a line of 4,096 bytes and a CR, and one of 4,097, each in two pieces and with a line behind it
  longest : fed (spaced 4065) ≡ text ("OPEN" ∷ "0" ∷ "5" ∷ "01120610 07L 6/6/6 DRY/DRY/DRY" ∷ [])
  longer : fed (spaced 4066) ≡ text ("OPEN" ∷ "5" ∷ "5" ∷ [])
  -- an opening that is refused: nothing else is printed
  refused-in-pieces : fed (text ("XQAA" ∷ []) ∷ text ("XQAA 07L/1" ∷ "1 01120610 07L 6/6/6 DRY/DRY/DRY" ∷ []) ∷ []) ≡ text ("REFUSED 17" ∷ [])
  -- two desks: neither takes the other's runway, whatever was observed when; the printed rows are bare
  desks : desk_text (text ("XQAA 07L/1 07R/2" ∷ "1 01120610 07L 6/6/6 DRY/DRY/DRY" ∷ "2 01120700 07L 6/6/6 DRY/DRY/DRY" ∷ "1 01120700 07R 6/6/6 DRY/DRY/DRY"
      ∷ "3 01120700 07R 6/6/6 DRY/DRY/DRY" ∷ "2 01120640 07R 6/6/6 DRY/DRY/DRY" ∷ []))
      ≡ text ("OPEN" ∷ "0" ∷ "22" ∷ "22" ∷ "23" ∷ "0" ∷ "01120610 07L 6/6/6 DRY/DRY/DRY" ∷ "01120640 07R 6/6/6 DRY/DRY/DRY" ∷ [])
  -- the board after an input; blank where none is opened
  kept : desk_board (text ("XQAA 07L/1 07R/2" ∷ []) ++ bytes "1 01120610 07L 6/6/6 DRY/DRY/DRY") ≡ holding (left ∷ [])
  kept-none : (desk_board [] ≡ blank_board) × (desk_board (text ("XQAA 07L" ∷ "1 01120610 07L 6/6/6 DRY/DRY/DRY" ∷ [])) ≡ blank_board)
  -- the desk waits for its first line, keeps the board that it opens, and is over where it opens none and for good
  standings : start_state.standing ∷ after_line Waiting (bytes "XQAA 07L") ∷ after_line Over (bytes "XQAA 07L/1") ∷ [] ≡ Waiting ∷ Over ∷ Over ∷ []
  opened : after_line Waiting (bytes "XQAA 07L/1 07R/2") ≡ Keeping board
  -- no board is kept before the first line and where none is opened
  boards : map board_of (Waiting ∷ Keeping (holding (left ∷ [])) ∷ Over ∷ []) ≡ blank_board ∷ holding (left ∷ []) ∷ blank_board ∷ []
  -- how much of a line is kept
  kept-size : most_kept ≡ 4098
  -- nothing is held before the first piece
  begins : start_state.held ≡ replicate 4098 0

pub inputs : Inputs
unfolding ◌and◌ lines spell skip read_text read_many read_name read_count digits read_digits is_short_month days_of real_day real_clock real_time later valid_runway
    is_contaminant is_deep is_coverage valid_coverage least_depth is_reported valid_depth valid_third is_blank_third measure_pieces read_measure read_coverage
    read_description third_pieces read_third read_group three_that is_blank_row valid_row is_bare is_six is_dry is_short middle_pieces width_pieces row_pieces
    parted may_cover may_lie read_width time_group runway_group code_group coverage_group depth_group description_group width_group short find_row
    is_letters read_aerodrome is_aerodrome is_blank_runway comes_before rises rising valid_list names fits_place fit_places valid_places
    is_desk valid_owners latest_of latest_from latest reported latest_shown valid_opening valid_board opening place_of is_news refusal newest
    report read_spaced read_owner read_owned read_opening opening_line read_sender
    report_line shown_text answer_line shown_rows answers_text desk_text report_lines desk_board
    after_line line_answer end_answer without_return after_byte byte_answer fed_state fed_text last_standing last_text finish_text pieces_text flatten
inputs = record {
  new-year = refl;
  reports = refl;
  order = refl;
  refused = refl;
  empty = refl;
  blank = refl;
  unended = refl;
  last = refl;
  lines = refl;
  no-piece = refl;
  empty-pieces = refl;
  return-cut = refl;
  return_alone = refl;
  last-in-pieces = refl;
  longest = whole (spaced 4065);
  longer = whole (spaced 4066);
  refused-in-pieces = refl;
  desks = refl;
  kept = refl;
  kept-none = (refl, refl);
  standings = refl;
  opened = refl;
  boards = refl;
  kept-size = refl;
  begins = refl;
}

-- request 6: "A station on the night shift had 01010010 refused as older than 12312350": it is taken and shown, and the older one is refused behind it
pub new-years-night : desk_text night_shift ≡ night_shown
new-years-night = inputs.new-year
