-- "Writing gives the reported rows in board order, the heading time worked out."
use Rattle.std.specs.Prelude.{ℕ, ◌≡◌, List, [], ◌∷◌, length, cond, not}
use Rattle.text.specs.Choice.{first_failing, ◌else◌, is_empty}
use Rattle.items.specs.declared.Items.{Items}
use Rattle.items.specs.declared.Language.{Language}
use Rattle.body.specs.Rows.{make_rows}
use Rattle.record.specs.declared.Record.{Record}
use Rattle.text.specs.declared.Written.{Written}
use Rattle.notice.specs.Writing.{unwritten, writing, written}
use Rattle.board.specs.declared.Board.{Board}
use Rattle.boardnotice.specs.declared.Details.{Details}
use Rattle.board.specs.Board.{reported, valid_board}
use Rattle.text.specs.Refusals.{wrong_board, no_report}

-- the record of a board: its aerodrome and rows, and the rest as it is given
abbrev pub board_record : Board → Details → Items → Language → Record
board_record b d i l = record {
  addresses = d.addresses;
  filing = d.filing;
  title = record { region = d.region; serial = d.serial; aerodrome = b.aerodrome };
  rows = make_rows (reported b.rows);
  items = i;
  language = l;
}

-- "Writing a board: 17, 21, 13, 14", for a buffer with room for so many bytes
unfoldable pub writing_board : Board → Details → Items → Language → ℕ → Written
writing_board b d i l room =
    first_failing (
    valid_board b else unwritten wrong_board
    ∷ not (is_empty (reported b.rows)) else unwritten no_report
    ∷ []) (writing (board_record b d i l) room)

-- the buffer afterwards: a refused writing touches no byte
unfoldable pub written_board : Board → Details → Items → Language → List ℕ → List ℕ
written_board b d i l buffer =
    cond (valid_board b)
    (cond (is_empty (reported b.rows)) buffer (written (board_record b d i l) buffer))
    buffer

-- what writing a board promises
pub record WroteBoard (b : Board) (d : Details) (i : Items) (l : Language) (before after : List ℕ) (w : Written) : Type 0 where
  pub answer : w ≡ writing_board b d i l (length before)
  pub holds : after ≡ written_board b d i l before
