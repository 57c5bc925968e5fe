-- Writing a board by computation: a changed numeral or order fails here.
use Rattle.std.specs.Prelude.{ℕ, ◌≡◌, refl, List, [], ◌∷◌}
use Rattle.text.specs.Choice.{◌and◌}
use Rattle.text.specs.Piece.{bytes}
use Rattle.runway.specs.Time.{is_short_month, days_of, real_day, real_clock, real_time, later}
use Rattle.runway.specs.Runway.{valid_runway}
use Rattle.surface.specs.Descriptions.{is_contaminant, is_deep}
use Rattle.surface.specs.Third.{is_blank_third, is_coverage, valid_coverage, least_depth, is_reported, valid_depth, valid_third}
use Rattle.row.specs.Row.{blank_row, three_that, is_blank_row, valid_row}
use Rattle.frontlines.specs.Letters.{is_letters}
use Rattle.items.specs.declared.Items.{Items}
use Rattle.items.specs.declared.Language.{Language}
use Rattle.body.specs.Rows.{make_rows, latest_of, latest_from, latest}
use Rattle.boardnotice.specs.declared.Details.{Details}
use Rattle.board.specs.Board.{is_blank_runway, comes_before, rises, rising, is_aerodrome, valid_list, names, fits_place, fit_places, valid_places, is_desk, valid_owners}
use Rattle.board.specs.Board.{reported, latest_shown, valid_opening, valid_board, blank_board}
use Rattle.board.specs.Report.{place_of, is_news, refusal, newest, report}
use Rattle.board.specs.Runs.{◌sends◌, reports}
use Rattle.boardnotice.specs.Writing.{board_record, writing_board, written_board}
use Rattle.board.specs.Tables.{board, dry_row, storing, holding, left, right}

-- "Writing a board: 17, 21": before anything is asked of the details, and no byte is touched
pub record Writings : Type 0 where
  wrong : (d : Details) (i : Items) (l : Language) (room : ℕ) → writing_board blank_board d i l room ≡ record { refusal = 17; length = 0 }
  wrong-time : (d : Details) (i : Items) (l : Language) (room : ℕ) → writing_board (storing 1120611 (left ∷ [])) d i l room ≡ record { refusal = 17; length = 0 }
  silent : (d : Details) (i : Items) (l : Language) (room : ℕ) → writing_board board d i l room ≡ record { refusal = 21; length = 0 }
  wrong-bytes : (d : Details) (i : Items) (l : Language) (buffer : List ℕ) → written_board blank_board d i l buffer ≡ buffer
  silent-bytes : (d : Details) (i : Items) (l : Language) (buffer : List ℕ) → written_board board d i l buffer ≡ buffer
  -- "the reported rows in board order", and the board's aerodrome
  rows : (d : Details) (i : Items) (l : Language) → (board_record (holding (blank_row ∷ right ∷ [])) d i l).rows ≡ make_rows (right ∷ [])
  both : (d : Details) (i : Items) (l : Language) → (board_record (holding (left ∷ right ∷ [])) d i l).rows ≡ make_rows (left ∷ right ∷ [])
  -- in board order whatever came first
  shown : reported (reports board (2 sends right ∷ 1 sends left ∷ 1 sends dry_row 1120605 7 1 ∷ 2 sends dry_row 1120700 7 1 ∷ [])).rows ≡ left ∷ right ∷ []
  aerodrome : (d : Details) (i : Items) (l : Language) → (board_record board d i l).title.aerodrome ≡ bytes "XQAA"

pub writings : Writings
unfolding ◌and◌ is_short_month days_of real_day real_clock real_time later valid_runway is_contaminant is_deep is_coverage valid_coverage least_depth is_reported
    valid_depth valid_third is_blank_third three_that is_blank_row valid_row is_letters is_aerodrome is_blank_runway comes_before rises rising valid_list names fits_place
    fit_places valid_places is_desk valid_owners valid_opening valid_board place_of is_news refusal newest report reports
    latest_of latest_from latest reported latest_shown writing_board written_board
writings = record {
  wrong = λ d i l n. refl;
  wrong-time = λ d i l n. refl;
  silent = λ d i l n. refl;
  wrong-bytes = λ d i l x. refl;
  silent-bytes = λ d i l x. refl;
  rows = λ d i l. refl;
  both = λ d i l. refl;
  shown = refl;
  aerodrome = λ d i l. refl;
}
