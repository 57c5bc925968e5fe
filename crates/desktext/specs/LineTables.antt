-- The desk's lines by computation: a changed numeral or word fails here.
use Rattle.std.specs.Prelude.{ℕ, ◌≡◌, refl, List, [], ◌∷◌, ◌++◌, map, replicate, None, Some}
use Prim.Native.String.{String}
use Rattle.text.specs.Choice.{◌and◌}
use Rattle.text.specs.Piece.{bytes, canonical, spell}
use Rattle.text.specs.Read.{misfit, skip, read_text, read_many, got}
use Rattle.text.specs.Names.{read_name, read_count}
use Rattle.text.specs.Numbers.{digits, read_digits}
use Rattle.runway.specs.Time.{is_short_month, days_of, real_day, real_clock, real_time, later}
use Rattle.runway.specs.Runway.{valid_runway}
use Rattle.surface.specs.Descriptions.{is_contaminant, is_deep}
use Rattle.surface.specs.Third.{is_blank_third, is_coverage, valid_coverage, least_depth, is_reported, valid_depth, valid_third}
use Rattle.thirds.specs.Groups.{measure_pieces, read_measure, read_coverage, read_description, third_pieces, read_third, read_group}
use Rattle.row.specs.Row.{blank_row, three_that, is_blank_row, valid_row, is_bare, is_six, is_dry, is_short}
use Rattle.rowtext.specs.Text.{middle_pieces, width_pieces, row_pieces}
use Rattle.rowtext.specs.Reading.{parted, may_cover, may_lie, read_width, time_group, runway_group, code_group, coverage_group, depth_group, description_group}
use Rattle.rowtext.specs.Reading.{width_group, short, find_row}
use Rattle.frontlines.specs.Letters.{is_letters}
use Rattle.frontlines.specs.Heading.{read_aerodrome}
use Rattle.board.specs.Board.{is_blank_runway, comes_before, rises, rising, is_aerodrome, valid_list, names, fits_place, fit_places, valid_places, is_desk, valid_owners}
use Rattle.body.specs.Rows.{latest_of, latest_from, latest}
use Rattle.board.specs.Board.{reported, latest_shown, valid_opening, valid_board}
use Rattle.board.specs.Board.{blank_board, answer, opening}
use Rattle.board.specs.Report.{place_of, is_news, refusal, newest, report}
use Rattle.desktext.specs.Line.{read_spaced, read_owner, read_owned, owned_pieces, with_owners, read_opening, list_found, opening_line, sender_pieces, read_sender}
use Rattle.desktext.specs.Line.{report_line, shown_text}
use Rattle.desktext.specs.Desks.{lines_from, lines_answered}
use Rattle.board.specs.Tables.{runway, board, holding, left}

-- the refusals of opening lines, and of row lines on the board above
abbrev opening_lines : List String → List ℕ
opening_lines ls = map (λ s. (opening_line (bytes s)).refusal) ls

abbrev row_lines : List String → List ℕ
row_lines ls = map (λ s. (report_line board (bytes s)).refusal) ls

pub record Lines : Type 0 where
  -- "a line with the aerodrome and the runways, parted by one space"
  opened : opening_line (bytes "XQAA 07L/1 07R/2") ≡ answer 0 board
  most : opening_lines ("XQAA 01/1"
      ∷ "XQAA 01/1 01L/1 01C/2 01R/2 02/1 02R/1 17/2 18R/1"
      ∷ "XQAA 01/1 01L/1 01C/1 01R/1 02/1 02R/1 17/1 18/1 18R/1" ∷ []) ≡ 0 ∷ 0 ∷ 17 ∷ []
  -- "runways end in `/1` or `/2`", joined; one desk may own all; rising is judged by the runway alone
  owned : opening_lines ("XQAA 07L/2 07R/2" ∷ "XQAA 07L/2 07R/1" ∷ "XQAA 07L/1 07L/2" ∷ []) ≡ 0 ∷ 0 ∷ 17 ∷ []
  unowned : opening_lines ("XQAA 07 /1" ∷ "XQAA 07/ 1" ∷ "XQAA 07/" ∷ "XQAA 07/0" ∷ "XQAA 07/3" ∷ "XQAA 07/12" ∷ "XQAA 07/1/1" ∷ "XQAA 07" ∷ "XQAA 07/1 08" ∷ [])
      ≡ 17 ∷ 17 ∷ 17 ∷ 17 ∷ 17 ∷ 17 ∷ 17 ∷ 17 ∷ 17 ∷ []
  -- decision: an empty line, a double, leading or trailing space, a `)` and what is no runway are refused
  spaces : opening_lines ("" ∷ "XQAA" ∷ "XQAA  07L/1" ∷ " XQAA 07L/1" ∷ "XQAA 07L/1 " ∷ "XQAA 07L/1  07R/1" ∷ "XQAA07L/1" ∷ [])
      ≡ 17 ∷ 17 ∷ 17 ∷ 17 ∷ 17 ∷ 17 ∷ 17 ∷ []
  texts : opening_lines ("XQAA 07L/1)" ∷ "XQAA 7L/1" ∷ "XQAA 07X/1" ∷ "XQA 07L/1" ∷ "XQA1 07L/1" ∷ "XQAA 07R/1 07L/1" ∷ "XQAA 19/1" ∷ "XQAA 00/1" ∷ [])
      ≡ 17 ∷ 17 ∷ 17 ∷ 17 ∷ 17 ∷ 17 ∷ 17 ∷ 17 ∷ []
  refused : opening_line (bytes "XQAA 07L/1 ") ≡ answer 17 blank_board
  -- "5 where the line is no row under freedoms (a), (b) and (d)"; it "starts with one digit, the desk, and one space"
  report : report_line board (bytes "1 01120610 07L 6/6/6 DRY/DRY/DRY") ≡ answer 0 (holding (left ∷ []))
  typed : report_line board (bytes "1 01120610  07L 6/6/6 NR/NR/NR NR/NR/NR DRY/DRY/DRY") ≡ answer 0 (holding (left ∷ []))
  rows : row_lines ("" ∷ ")" ∷ "1 01120610 07L 6/6/6 DRY/DRY/DRY)" ∷ "1 02300000 07L 6/6/6 DRY/DRY/DRY" ∷ "1 01120610 07 6/6/6 DRY/DRY/DRY" ∷ [])
      ≡ 5 ∷ 5 ∷ 26 ∷ 5 ∷ 18 ∷ []
  -- request 2: the group at fault, before 23, 18 and 22
  groups : row_lines ("1 01120610" ∷ "1 01120610 7L 6/6/6 DRY/DRY/DRY" ∷ "3 01120610 07L 7/6/6 DRY/DRY/DRY" ∷ "2 01120610 07L 5/5/5 NR/NR/NR"
      ∷ "1 01120610 07 5/5/5 25/NR/NR NR/NR/NR FROST/ICE/X" ∷ "1 01120610 07L 5/5/5 25/NR/NR NR/NR/NR FROST/ICE/ICE 00" ∷ [])
      ≡ 24 ∷ 24 ∷ 25 ∷ 26 ∷ 27 ∷ 28 ∷ []
  -- without that start, or with nothing after it, 5 comes before all others, and so does the number of a row
  starts : row_lines ("12 01120610 07L 6/6/6 DRY/DRY/DRY" ∷ "A 01120610 07L 6/6/6 DRY/DRY/DRY" ∷ " 1 01120610 07L 6/6/6 DRY/DRY/DRY"
      ∷ "101120610 07L 6/6/6 DRY/DRY/DRY" ∷ "01120610 07L 6/6/6 DRY/DRY/DRY"
      ∷ "1  01120610 07L 6/6/6 DRY/DRY/DRY" ∷ "1" ∷ "1 " ∷ "3 RUBBISH" ∷ "9 01120640 19 6/6/6 DRY/DRY/DRY" ∷ [])
      ≡ 5 ∷ 5 ∷ 5 ∷ 5 ∷ 5 ∷ 5 ∷ 5 ∷ 5 ∷ 5 ∷ 24 ∷ []
  -- "23 no such desk", also where the runway is not on the board; "22 runway belongs to the other desk"
  desks : row_lines ("3 01120610 07L 6/6/6 DRY/DRY/DRY" ∷ "0 01120610 07L 6/6/6 DRY/DRY/DRY" ∷ "3 01120610 07 6/6/6 DRY/DRY/DRY"
      ∷ "2 01120610 07L 6/6/6 DRY/DRY/DRY" ∷ "1 01120610 07R 6/6/6 DRY/DRY/DRY" ∷ "2 01120610 07R 6/6/6 DRY/DRY/DRY" ∷ "2 01120610 07 6/6/6 DRY/DRY/DRY" ∷ [])
      ≡ 23 ∷ 23 ∷ 23 ∷ 22 ∷ 22 ∷ 0 ∷ 18 ∷ []
  -- a report that was taken, sent again by the other desk and by its own
  again : map (λ s. (report_line (holding (left ∷ [])) (bytes s)).refusal) ("2 01120610 07L 6/6/6 DRY/DRY/DRY" ∷ "1 01120610 07L 6/6/6 DRY/DRY/DRY" ∷ [])
      ≡ 22 ∷ 20 ∷ []
  -- "or is over 4,096 bytes", digit and space included: as long as that, a line is read
  long : (report_line board (bytes "1 01120610" ++ (replicate 4065 32 ++ bytes "07L 6/6/6 DRY/DRY/DRY"))).refusal
      ∷ (report_line board (bytes "1 01120610" ++ (replicate 4066 32 ++ bytes "07L 6/6/6 DRY/DRY/DRY"))).refusal ∷ [] ≡ 0 ∷ 5 ∷ []
  -- the lines that begin with a desk's digit and a space, and the answers to them
  of-desk : lines_from 1 (map bytes ("2 A" ∷ "1 B" ∷ "1C" ∷ "12 D" ∷ "1 " ∷ "0 E" ∷ [])) ≡ map bytes ("1 B" ∷ "1 " ∷ [])
  answered : lines_answered 1 board (map bytes ("2 01120610 07L 6/6/6 DRY/DRY/DRY" ∷ "1 01120610 07L 6/6/6 DRY/DRY/DRY" ∷ "1 X" ∷ "X"
      ∷ "1 01120610 07R 6/6/6 DRY/DRY/DRY" ∷ []))
      ≡ 0 ∷ 5 ∷ 22 ∷ []
  -- "the rows shown, in board order, one a line"
  line : shown_text left ≡ bytes "01120610 07L 6/6/6 DRY/DRY/DRY" ++ (10 ∷ [])
  none : shown_text blank_row ≡ []
  -- a list that does not fit is none; one of no runway is empty
  no-list : list_found misfit ≡ None
  no-runway : list_found (got [] []) ≡ Some (record { count = 0; runways = replicate 8 (runway 0 0); owners = replicate 8 0 })
  -- runways with their owners, as far as both go
  pairs : with_owners (runway 7 1 ∷ runway 7 3 ∷ []) (1 ∷ 2 ∷ []) ≡ (runway 7 1, 1) ∷ (runway 7 3, 2) ∷ []
  -- the text of a runway with its owner, and of a line's start
  joined : canonical (owned_pieces (runway 7 1, 2)) ≡ bytes " 07L/2"
  start : canonical (sender_pieces 2) ≡ bytes "2 "

pub lines : Lines
unfolding ◌and◌ spell skip read_text read_many read_name read_count digits read_digits is_short_month days_of real_day real_clock real_time later valid_runway
    is_contaminant is_deep is_coverage valid_coverage least_depth is_reported valid_depth valid_third is_blank_third measure_pieces read_measure read_coverage
    read_description third_pieces read_third read_group three_that is_blank_row valid_row is_bare is_six is_dry is_short middle_pieces width_pieces row_pieces
    parted may_cover may_lie read_width time_group runway_group code_group coverage_group depth_group description_group width_group short find_row
    is_letters read_aerodrome is_aerodrome is_blank_runway comes_before rises rising valid_list names fits_place fit_places valid_places
    is_desk valid_owners latest_of latest_from latest reported latest_shown valid_opening valid_board opening place_of is_news refusal newest
    report read_spaced read_owner read_owned read_opening opening_line read_sender
    report_line shown_text lines_from lines_answered
lines = record {
  opened = refl;
  most = refl;
  owned = refl;
  unowned = refl;
  spaces = refl;
  texts = refl;
  refused = refl;
  report = refl;
  typed = refl;
  rows = refl;
  groups = refl;
  starts = refl;
  desks = refl;
  again = refl;
  long = refl;
  of-desk = refl;
  answered = refl;
  line =
      refl;
  none = refl;
  no-list = refl;
  no-runway = refl;
  pairs = refl;
  joined = refl;
  start = refl;
}
