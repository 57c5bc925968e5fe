-- The board: document 01, "The board"; document 02, "Two desks on one board".
use Rattle.std.specs.Prelude.{ℕ, List, [], ◌∷◌, cond, Bool, true, eqb, leb, ltb, length, take, drop, replicate}
use Rattle.text.specs.Choice.{◌and◌, all, member}
use Rattle.text.specs.Arrays.{is_zero}
use Rattle.runway.specs.Runway.{valid_runway}
use Rattle.row.specs.declared.Row.{Row}
use Rattle.row.specs.Row.{highest_runway, valid_row, blank_row, is_blank_row}
use Rattle.body.specs.Rows.{latest}
use Rattle.frontlines.specs.Letters.{is_letters}
use Rattle.frontlines.specs.Heading.{aerodrome_size}
use Rattle.board.specs.declared.Runway.{Runway}
use Rattle.board.specs.declared.Board.{Board}
use Rattle.board.specs.declared.Answer.{Answer}
use Rattle.text.specs.Refusals.{wrong_board}

-- "1 to 8 runways", "eight places"
abbrev pub places : ℕ
places = 8

-- the aerodrome's four letters
unfoldable pub is_aerodrome : List ℕ → Bool
is_aerodrome l = is_letters aerodrome_size l

-- zeros stand for no runway
abbrev pub blank_runway : Runway
blank_runway = record { number = 0; side = 0 }

-- an unused place of the list
unfoldable pub is_blank_runway : Runway → Bool
is_blank_runway w = eqb w.number 0 and eqb w.side 0

-- "by number, then none, L, C, R"
unfoldable pub comes_before : Runway → Runway → Bool
comes_before v w = cond (eqb v.number w.number) (ltb v.side w.side) (ltb v.number w.number)

-- a runway that may stand behind v
unfoldable pub rises : Runway → Runway → Bool
rises v w = valid_runway highest_runway w.number w.side and comes_before v w

-- "rising": each behind the one before it, the first behind v
unfoldable pub rising : Runway → List Runway → Bool
rising v [] = true
rising v (w ∷ ws) = rises v w and rising w ws

-- "an aerodrome and 1 to 8 runways, rising", zeros past the count
unfoldable pub valid_list : List ℕ → ℕ → List Runway → Bool
valid_list aerodrome count runways =
    is_aerodrome aerodrome and leb 1 count and leb count places and eqb (length runways) places
    and rising blank_runway (take count runways) and all is_blank_runway (drop count runways)

-- "desk 1 or 2"
unfoldable pub is_desk : ℕ → Bool
is_desk d = member (1 ∷ 2 ∷ []) d

-- "Each runway gets an owner, desk 1 or 2", zeros past the count
unfoldable pub valid_owners : ℕ → List ℕ → Bool
valid_owners count owners = eqb (length owners) places and all is_desk (take count owners) and all is_zero (drop count owners)

-- what is opened: "17 also for a wrong owner"
unfoldable pub valid_opening : List ℕ → ℕ → List Runway → List ℕ → Bool
valid_opening aerodrome count runways owners = valid_list aerodrome count runways and valid_owners count owners

-- the row names the runway
unfoldable pub names : Row → Runway → Bool
names r w = eqb r.number w.number and eqb r.side w.side

-- "a shown row is valid and stands in its own runway's place"; an unreported place is zero
unfoldable pub fits_place : Runway → Row → Bool
fits_place w r = cond (is_blank_row r) true (valid_row r and names r w)

-- the runways' places, and behind them "every unused or unreported place is zero"
unfoldable pub fit_places : List Runway → List Row → Bool
fit_places [] rs = all is_blank_row rs
fit_places (w ∷ ws) [] = true
fit_places (w ∷ ws) (r ∷ rs) = fits_place w r and fit_places ws rs

-- "eight places of one row"
unfoldable pub valid_places : ℕ → List Runway → List Row → Bool
valid_places count runways rows = eqb (length rows) places and fit_places (take count runways) rows

-- the runways in use
abbrev pub runways_of : Board → List Runway
runways_of b = take b.count b.runways

-- the rows shown, in board order
unfoldable pub reported : List Row → List Row
reported [] = []
reported (r ∷ rs) = cond (is_blank_row r) (reported rs) (r ∷ reported rs)

-- the latest time of the rows shown: "with a mark for none", 0
unfoldable pub latest_shown : List Row → ℕ
latest_shown rows = latest (reported rows)

-- the board's rules: also the stored time is that of the rows
unfoldable pub valid_board : Board → Bool
valid_board b = valid_opening b.aerodrome b.count b.runways b.owners and valid_places b.count b.runways b.rows
    and eqb b.latest (latest_shown b.rows)

-- nothing reported
abbrev pub no_rows : List Row
no_rows = replicate places blank_row

-- "blank means all zero"
abbrev pub blank_board : Board
blank_board = record {
  aerodrome = replicate aerodrome_size 0;
  count = 0;
  runways = replicate places blank_runway;
  owners = replicate places 0;
  latest = 0;
  rows = no_rows;
}

-- a board with nothing reported
abbrev pub fresh : List ℕ → ℕ → List Runway → List ℕ → Board
fresh aerodrome count runways owners = record { aerodrome = aerodrome; count = count; runways = runways; owners = owners; latest = 0; rows = no_rows }

-- a refusal number, 0 for taken, and the board afterwards
abbrev pub answer : ℕ → Board → Answer
answer n b = record { refusal = n; board = b }

-- "A refused opening yields the blank board"
abbrev pub refused_opening : Answer
refused_opening = answer wrong_board blank_board

-- "Opened with an aerodrome and 1 to 8 runways", "Each runway gets an owner .. at opening"
unfoldable pub opening : List ℕ → ℕ → List Runway → List ℕ → Answer
opening aerodrome count runways owners = cond (valid_opening aerodrome count runways owners) (answer 0 (fresh aerodrome count runways owners)) refused_opening
