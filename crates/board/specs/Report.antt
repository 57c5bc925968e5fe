-- "A report is a row. It is taken only if observed later than the row shown", and "each report says who sends it".
use Rattle.std.specs.Prelude.{ℕ, suc, List, [], ◌∷◌, cond, Bool, true, eqb, ltb, get_or, set}
use Rattle.text.specs.Choice.{◌else◌, first_failing}
use Rattle.runway.specs.Time.{later}
use Rattle.row.specs.declared.Row.{Row}
use Rattle.row.specs.Row.{valid_row, blank_row, is_blank_row}
use Rattle.body.specs.Rows.{latest_of}
use Rattle.text.specs.Refusals.{not_later, not_on_board, invalid_row, wrong_board, others_runway, no_desk}
use Rattle.board.specs.declared.Runway.{Runway}
use Rattle.board.specs.declared.Board.{Board}
use Rattle.board.specs.declared.Answer.{Answer}
use Rattle.board.specs.Board.{names, runways_of, is_desk, valid_board, answer}

-- how many runways of a list stand before the one that the row names
unfoldable pub place_of : Row → List Runway → ℕ
place_of r [] = 0
place_of r (w ∷ ws) = cond (names r w) 0 (suc (place_of r ws))

-- the place of the row's runway on the board
abbrev pub place_for : Board → Row → ℕ
place_for b r = place_of r (runways_of b)

-- what a place holds
abbrev pub row_at : Board → ℕ → Row
row_at b i = get_or b.rows i blank_row

-- the desk that owns a place
abbrev pub owner_at : Board → ℕ → ℕ
owner_at b i = get_or b.owners i 0

-- "observed later than the row shown", if there is one
unfoldable pub is_news : Row → Row → Bool
is_news r shown = cond (is_blank_row shown) true (later r.time shown.time)

-- "order 17, 23, 19, 18, 22, 20", for the report of a row by a desk
unfoldable pub refusal : Board → ℕ → Row → ℕ
refusal b desk r =
    let i = place_for b r in
    first_failing (
    valid_board b else wrong_board
    ∷ is_desk desk else no_desk
    ∷ valid_row r else invalid_row
    ∷ ltb i b.count else not_on_board
    ∷ eqb desk (owner_at b i) else others_runway
    ∷ is_news r (row_at b i) else not_later
    ∷ []) 0

-- of a stored time and a report's the later: "Store it in the board"; a first report's is its own
unfoldable pub newest : ℕ → ℕ → ℕ
newest t s = cond (eqb t 0) s (latest_of t s)

-- the board with one place stored, and the latest time
abbrev pub stored : Board → ℕ → Row → Board
stored b i r = record {
  aerodrome = b.aerodrome;
  count = b.count;
  runways = b.runways;
  owners = b.owners;
  latest = newest b.latest r.time;
  rows = set b.rows i r;
}

-- the board after a report: as it was when refused
unfoldable pub report : Board → ℕ → Row → Answer
report b desk r = answer (refusal b desk r) (cond (eqb (refusal b desk r) 0) (stored b (place_for b r) r) b)
