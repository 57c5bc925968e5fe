-- The board by computation: a changed numeral, order or word fails here.
use Rattle.std.specs.Prelude.{ℕ, ◌≡◌, refl, List, [], ◌∷◌, ◌++◌, map, true, false, replicate}
use Rattle.text.specs.Choice.{◌and◌}
use Rattle.text.specs.Piece.{bytes}
use Rattle.text.specs.Arrays.{pad}
use Rattle.runway.specs.Time.{is_short_month, days_of, real_day, real_clock, real_time, later}
use Rattle.runway.specs.Runway.{valid_runway}
use Rattle.surface.specs.Descriptions.{is_contaminant, is_deep, not_reported, dry}
use Rattle.surface.specs.Third.{third, is_blank_third, is_coverage, valid_coverage, least_depth, is_reported, valid_depth, valid_third}
use Rattle.row.specs.declared.Row.{Row}
use Rattle.row.specs.Row.{blank_row, three_that, is_blank_row, valid_row}
use Rattle.body.specs.Rows.{latest_of, latest_from, latest}
use Rattle.frontlines.specs.Letters.{is_letters}
use Rattle.board.specs.declared.Runway.{Runway}
use Rattle.board.specs.declared.Board.{Board}
use Rattle.board.specs.Board.{places, blank_runway, is_blank_runway, comes_before, rises, rising, is_aerodrome, valid_list, names, fits_place, fit_places}
use Rattle.board.specs.Board.{valid_places, is_desk, valid_owners, reported, latest_shown, valid_opening, valid_board, blank_board, fresh, answer, opening}
use Rattle.board.specs.Report.{place_of, is_news, refusal, newest, report}
use Rattle.board.specs.declared.Sent.{Sent}
use Rattle.board.specs.Runs.{◌sends◌, by_owner, reports, from, answers_to}

-- sides: 0 none, 1 L, 2 C, 3 R
abbrev pub runway : ℕ → ℕ → Runway
runway n s = record { number = n; side = s }

abbrev pub list : List Runway → List Runway
list ws = pad places blank_runway ws

abbrev pub pair : List Runway
pair = list (runway 7 1 ∷ runway 7 3 ∷ [])

-- one owner for each runway, zeros behind
abbrev pub owned : List ℕ → List ℕ
owned os = pad places 0 os

-- XQAA with 07L of desk 1 and 07R of desk 2
abbrev pub board : Board
board = fresh (bytes "XQAA") 2 pair (owned (1 ∷ 2 ∷ []))

-- the refusals of openings in which desk 1 owns all
abbrev opens : List ℕ → ℕ → List Runway → ℕ
opens a n ws = (opening a n ws (owned (replicate n 1))).refusal

-- and of XQAA with 07L and 07R and these owners
abbrev owners : List ℕ → ℕ
owners os = (opening (bytes "XQAA") 2 pair os).refusal

-- two runways
abbrev two : Runway → Runway → ℕ
two v w = opens (bytes "XQAA") 2 (list (v ∷ w ∷ []))

abbrev eight : List Runway
eight = runway 1 0 ∷ runway 1 1 ∷ runway 1 2 ∷ runway 1 3 ∷ runway 2 0 ∷ runway 2 3 ∷ runway 17 0 ∷ runway 18 3 ∷ []

pub record Openings : Type 0 where
  taken : opening (bytes "XQAA") 2 pair (owned (1 ∷ 2 ∷ [])) ≡ answer 0 board
  -- "A refused opening yields the blank board"
  refused : opening (bytes "XQA1") 2 pair (owned (1 ∷ 2 ∷ [])) ≡ answer 17 blank_board
  -- "desk 1 or 2", also all of one desk
  desks : owners (owned (1 ∷ 1 ∷ [])) ∷ owners (owned (2 ∷ 2 ∷ [])) ∷ owners (owned (2 ∷ 1 ∷ [])) ∷ [] ≡ 0 ∷ 0 ∷ 0 ∷ []
  -- "17 also for a wrong owner": none, a third, zeros past the count, eight places
  no-desks : owners (owned (0 ∷ 2 ∷ [])) ∷ owners (owned (1 ∷ 0 ∷ [])) ∷ owners (owned (1 ∷ 3 ∷ [])) ∷ owners (owned (257 ∷ 2 ∷ []))
      ∷ owners (owned (1 ∷ 2 ∷ 1 ∷ [])) ∷ owners (1 ∷ 2 ∷ []) ∷ owners (owned (1 ∷ 2 ∷ []) ++ 0 ∷ []) ∷ [] ≡ 17 ∷ 17 ∷ 17 ∷ 17 ∷ 17 ∷ 17 ∷ 17 ∷ []
  aerodromes : map (λ s. opens (bytes s) 2 pair) ("AAAA" ∷ "ZZZZ" ∷ "XQA" ∷ "XQAAX" ∷ "xqaa" ∷ "XQ A" ∷ "@QAA" ∷ "XQA[" ∷ [])
      ≡ 0 ∷ 0 ∷ 17 ∷ 17 ∷ 17 ∷ 17 ∷ 17 ∷ 17 ∷ []
  -- "1 to 8 runways"
  counts : opens (bytes "XQAA") 0 (list []) ∷ opens (bytes "XQAA") 1 (list (runway 7 0 ∷ [])) ∷ opens (bytes "XQAA") 8 eight
      ∷ opens (bytes "XQAA") 9 (eight ++ runway 18 3 ∷ []) ∷ opens (bytes "XQAA") 9 eight ∷ [] ≡ 17 ∷ 0 ∷ 0 ∷ 17 ∷ 17 ∷ []
  -- "rising by number, then none, L, C, R"
  rise : two (runway 7 0) (runway 7 1) ∷ two (runway 7 1) (runway 7 2) ∷ two (runway 7 2) (runway 7 3) ∷ two (runway 7 3) (runway 8 0) ∷ [] ≡ 0 ∷ 0 ∷ 0 ∷ 0 ∷ []
  fall : two (runway 7 1) (runway 7 0) ∷ two (runway 7 2) (runway 7 1) ∷ two (runway 7 3) (runway 7 2) ∷ two (runway 8 0) (runway 7 3)
      ∷ two (runway 7 1) (runway 7 1) ∷ [] ≡ 17 ∷ 17 ∷ 17 ∷ 17 ∷ 17 ∷ []
  -- "01 to 18, then nothing, L, C or R"
  numbers : two (runway 1 0) (runway 18 0) ∷ two (runway 1 0) (runway 19 0) ∷ two (runway 0 1) (runway 1 0) ∷ two (runway 7 0) (runway 7 4) ∷ []
      ≡ 0 ∷ 17 ∷ 17 ∷ 17 ∷ []
  -- zeros past the count, and eight places
  rest : opens (bytes "XQAA") 1 pair ∷ opens (bytes "XQAA") 1 (list (runway 7 0 ∷ runway 0 1 ∷ [])) ∷ opens (bytes "XQAA") 1 (runway 7 0 ∷ []) ∷ []
      ≡ 17 ∷ 17 ∷ 17 ∷ []

pub openings : Openings
unfolding ◌and◌ valid_runway is_letters is_aerodrome is_blank_runway comes_before rises rising valid_list is_desk valid_owners valid_opening opening
openings = record {
  taken = refl;
  refused = refl;
  desks = refl;
  no-desks = refl;
  aerodromes = refl;
  counts = refl;
  rise = refl;
  fall = refl;
  numbers = refl;
  rest = refl;
}

-- a row of DRY thirds
abbrev pub dry_row : ℕ → ℕ → ℕ → Row
dry_row t n s = record { time = t; number = n; side = s; thirds = replicate 3 (third 6 not_reported not_reported dry); width = 0 }

-- the refusals of reports one after another
abbrev answers : Board → List Sent → List ℕ
answers b [] = []
answers b (x ∷ xs) = (report b x.desk x.row).refusal ∷ answers (report b x.desk x.row).board xs

-- the stored times of a board and after each report
abbrev times_of : Board → List Sent → List ℕ
times_of b [] = b.latest ∷ []
times_of b (x ∷ xs) = b.latest ∷ times_of (report b x.desk x.row).board xs

-- a board that stores a time and holds these rows
abbrev pub storing : ℕ → List Row → Board
storing t rs = record { aerodrome = bytes "XQAA"; count = 2; runways = pair; owners = owned (1 ∷ 2 ∷ []); latest = t; rows = pad places blank_row rs }

-- and one that stores their latest
abbrev pub holding : List Row → Board
holding rs = storing (latest_shown (pad places blank_row rs)) rs

abbrev pub left : Row
left = dry_row 1120610 7 1

abbrev pub right : Row
right = dry_row 1120640 7 3

-- no real day; a runway that the board has not
abbrev unreal : Row
unreal = dry_row 2300000 7 1

abbrev elsewhere : Row
elsewhere = dry_row 1120610 7 0

pub record Reports : Type 0 where
  -- taken; the same again; an earlier one; a later one
  times : answers board (1 sends left ∷ 1 sends left ∷ 1 sends dry_row 1120609 7 1 ∷ 1 sends dry_row 1120611 7 1 ∷ []) ≡ 0 ∷ 20 ∷ 20 ∷ 0 ∷ []
  -- the station's own case: 01010010 behind 12312350 is taken, and back it is not; June is last, and July would be first
  seasons : answers board (1 sends dry_row 12312350 7 1 ∷ 1 sends dry_row 1010010 7 1 ∷ 1 sends dry_row 12312350 7 1 ∷ 1 sends dry_row 6302359 7 1
      ∷ 1 sends dry_row 7010000 7 1 ∷ []) ≡ 0 ∷ 0 ∷ 20 ∷ 0 ∷ 20 ∷ []
  -- a different row of equal time
  equal : answers board (1 sends left ∷ 1 sends record { time = 1120610; number = 7; side = 1; thirds = left.thirds; width = 30 } ∷ []) ≡ 0 ∷ 20 ∷ []
  -- another runway has its own times
  apart : answers board (2 sends right ∷ 1 sends left ∷ []) ≡ 0 ∷ 0 ∷ []
  -- each refusal alone
  alone : answers board (0 sends left ∷ 3 sends left ∷ 1 sends unreal ∷ 1 sends elsewhere ∷ 2 sends left ∷ 1 sends right ∷ [])
      ≡ 23 ∷ 23 ∷ 19 ∷ 18 ∷ 22 ∷ 22 ∷ []
  -- "order 17, 23, 19, 18, 22, 20": each before the next: 17 and 23, 23 and 19, 19 and 18, 22 and 20; a row that is not on the board belongs to nobody
  order-17 : answers blank_board (0 sends left ∷ 1 sends unreal ∷ 1 sends left ∷ []) ≡ 17 ∷ 17 ∷ 17 ∷ []
  order-23 : answers board (0 sends unreal ∷ 3 sends elsewhere ∷ 3 sends right ∷ []) ≡ 23 ∷ 23 ∷ 23 ∷ []
  order-19 : answers board (1 sends dry_row 2300000 7 0 ∷ 2 sends unreal ∷ []) ≡ 19 ∷ 19 ∷ []
  order-18 : answers board (1 sends elsewhere ∷ 2 sends elsewhere ∷ []) ≡ 18 ∷ 18 ∷ []
  order-22 : answers (holding (left ∷ [])) (2 sends left ∷ 2 sends dry_row 1120611 7 1 ∷ 1 sends left ∷ []) ≡ 22 ∷ 22 ∷ 20 ∷ []
  -- the row is stored in its own runway's place, and a refused report leaves the board as it was, owners included
  stored : report board 2 right ≡ answer 0 (storing 1120640 (blank_row ∷ right ∷ []))
  stays : report (holding (left ∷ [])) 1 left ≡ answer 20 (holding (left ∷ []))
  others : report board 1 right ≡ answer 22 board
  nobody : report board 0 right ≡ answer 23 board
  -- a run of both desks, and one in which desk 2 and nobody send otherwise: desk 1 gets the same answers, and its place the same row
  of-desk : from 1 (2 sends right ∷ 1 sends left ∷ 0 sends left ∷ 1 sends right ∷ []) ≡ 1 sends left ∷ 1 sends right ∷ []
  run : answers_to 1 board (2 sends right ∷ 1 sends left ∷ 2 sends left ∷ 1 sends right ∷ []) ≡ 0 ∷ 22 ∷ []
  rerun : answers_to 1 board (1 sends left ∷ 0 sends dry_row 1120611 7 1 ∷ 1 sends right ∷ 2 sends unreal ∷ []) ≡ 0 ∷ 22 ∷ []
  shown : reports board (2 sends right ∷ 1 sends left ∷ 2 sends dry_row 1120611 7 1 ∷ []) ≡ holding (left ∷ right ∷ [])
  -- the board's rules: its own place, valid, zeros in every unused or unreported place, eight places, owners as at opening
  rules : map (λ rs. valid_board (holding rs)) ([] ∷ (left ∷ []) ∷ (blank_row ∷ right ∷ []) ∷ (left ∷ right ∷ []) ∷ []) ≡ true ∷ true ∷ true ∷ true ∷ []
  neighbours : map (λ rs. valid_board (holding rs)) ((right ∷ []) ∷ (blank_row ∷ left ∷ []) ∷ (left ∷ left ∷ []) ∷ (dry_row 1120610 7 0 ∷ []) ∷ [])
      ≡ false ∷ false ∷ false ∷ false ∷ []
  zeros : map (λ rs. valid_board (holding rs)) ((dry_row 2300000 7 1 ∷ []) ∷ (dry_row 0 7 1 ∷ []) ∷ (left ∷ right ∷ dry_row 1120610 8 0 ∷ [])
      ∷ replicate 9 blank_row ∷ []) ≡ false ∷ false ∷ false ∷ false ∷ []
  owner-rules : map (λ os. valid_board (fresh (bytes "XQAA") 2 pair os)) (owned (1 ∷ 2 ∷ []) ∷ owned (1 ∷ 3 ∷ []) ∷ owned (1 ∷ []) ∷ owned (1 ∷ 2 ∷ 2 ∷ []) ∷ [])
      ≡ true ∷ false ∷ false ∷ false ∷ []
  -- the stored time, after opening and then each report: the first, a later one, an earlier one of the other runway, refused ones
  times-stored : times_of board (1 sends left ∷ 1 sends dry_row 1120641 7 1 ∷ 2 sends right ∷ 1 sends dry_row 1120641 7 1 ∷ 1 sends right
      ∷ 2 sends dry_row 1120642 7 3 ∷ [])
      ≡ 0 ∷ 1120610 ∷ 1120641 ∷ 1120641 ∷ 1120641 ∷ 1120641 ∷ 1120642 ∷ []
  seasons-stored : times_of board (1 sends dry_row 12312350 7 1 ∷ 2 sends dry_row 1010010 7 3 ∷ 1 sends dry_row 12312359 7 1 ∷ [])
      ≡ 0 ∷ 12312350 ∷ 1010010 ∷ 1010010 ∷ []
  season-rules : map (λ t. valid_board (storing t (dry_row 12312350 7 1 ∷ dry_row 1010010 7 3 ∷ []))) (1010010 ∷ 12312350 ∷ []) ≡ true ∷ false ∷ []
  -- "each row by its own desk": 07L is desk 1's, 07R desk 2's
  own-desks : map (by_owner board) (left ∷ right ∷ []) ≡ 1 sends left ∷ 2 sends right ∷ []
  -- "restores that board exactly, stored time included", the rows in either order: over New Year, and with a runway that shows nothing
  restored : map (λ rs. reports board (map (by_owner board) rs)) ((dry_row 12312350 7 1 ∷ dry_row 1010010 7 3 ∷ []) ∷ (dry_row 1010010 7 3 ∷ dry_row 12312350 7 1 ∷ []) ∷ (right ∷ []) ∷ [])
      ≡ storing 1010010 (dry_row 12312350 7 1 ∷ dry_row 1010010 7 3 ∷ []) ∷ storing 1010010 (dry_row 12312350 7 1 ∷ dry_row 1010010 7 3 ∷ [])
      ∷ storing 1120640 (blank_row ∷ right ∷ []) ∷ []
  -- 0 is the mark for none and no time: the first report's is stored, also where July would come before it
  newer : newest 0 7010000 ∷ newest 0 1120610 ∷ newest 1 0 ∷ newest 1120610 1120609 ∷ newest 1120610 1120611 ∷ [] ≡ 7010000 ∷ 1120610 ∷ 1 ∷ 1120610 ∷ 1120611 ∷ []
  -- "A board handed in with a wrong stored time is refused by 17": by one too early or late, none, another row's, one without a row
  time-rules : map (λ t. valid_board (storing t (left ∷ right ∷ []))) (1120640 ∷ 1120639 ∷ 1120641 ∷ 0 ∷ 1120610 ∷ [])
      ≡ true ∷ false ∷ false ∷ false ∷ false ∷ []
  no-time : map (λ t. valid_board (storing t [])) (0 ∷ 1 ∷ 1120610 ∷ []) ≡ true ∷ false ∷ false ∷ []
  wrong-time : report (storing 1120611 (left ∷ [])) 2 right ≡ answer 17 (storing 1120611 (left ∷ []))
  -- "blank means all zero"
  blank : (blank_board.aerodrome ≡ replicate 4 0) × (blank_board.count ≡ 0) × (blank_board.runways ≡ replicate 8 (record { number = 0; side = 0 }))
      × (blank_board.owners ≡ replicate 8 0) × (blank_board.latest ≡ 0) × (blank_board.rows ≡ replicate 8 blank_row)
  -- how many places stand before the runway that a row names
  places_of : map (place_of left) ([] ∷ (runway 7 1 ∷ []) ∷ (runway 7 3 ∷ runway 7 1 ∷ []) ∷ (runway 7 3 ∷ []) ∷ []) ≡ 0 ∷ 0 ∷ 1 ∷ 1 ∷ []

pub reporting : Reports
unfolding ◌and◌ is_short_month days_of real_day real_clock real_time later valid_runway is_contaminant is_deep is_coverage valid_coverage least_depth is_reported
    valid_depth valid_third is_blank_third three_that is_blank_row valid_row is_letters is_aerodrome is_blank_runway comes_before rises rising valid_list names fits_place
    fit_places valid_places is_desk valid_owners latest_of latest_from latest reported latest_shown valid_opening valid_board place_of is_news refusal newest
    report reports from answers_to
reporting = record {
  times = refl;
  seasons = refl;
  equal = refl;
  apart = refl;
  alone = refl;
  order-17 = refl;
  order-23 = refl;
  order-19 = refl;
  order-18 = refl;
  order-22 = refl;
  stored = refl;
  stays = refl;
  others = refl;
  nobody = refl;
  of-desk = refl;
  run = refl;
  rerun = refl;
  shown = refl;
  rules = refl;
  neighbours = refl;
  zeros = refl;
  owner-rules = refl;
  times-stored = refl;
  seasons-stored = refl;
  season-rules = refl;
  own-desks = refl;
  restored = refl;
  newer = refl;
  time-rules = refl;
  no-time = refl;
  wrong-time = refl;
  blank = (refl, refl, refl, refl, refl, refl);
  places_of = refl;
}
