-- Writing a board: the rows shown, taken one by one into their array, and the ways out.
use Prim.Native.Nat.{ℕ, suc, ◌+◌, ◌<◌, ◌≤◌}
use mathlib.Core.Path.{◌≡◌, refl, sym, ◌∙◌, ap}
use mathlib.Core.List.{List, [], ◌∷◌}
use mathlib.Core.Bool.{true, false}
use lib.Dec.{eqb}
use lib.ListN.{length, drop, get_or, set, replicate, drop_of_length-le}
use lib.Seq.{sets}
use borrow.Author.Tests.{eq-eqb, ne_eqb}
use native.Mathlib.Numerals.{add-one}
use native.Mathlib.Omega.{arith}
use Rattle.text.specs.Laws.Put.{over_zeros}
use Rattle.text.specs.Choice.{is_empty}
use Rattle.row.specs.declared.Row.{Row}
use Rattle.row.specs.Row.{blank_row, is_blank_row}
use Rattle.body.specs.declared.Rows.{Rows}
use Rattle.items.specs.declared.Items.{Items}
use Rattle.items.specs.declared.Language.{Language}
use Rattle.body.specs.Rows.{rows_of, make_rows, latest}
use Rattle.record.specs.declared.Record.{Record}
use Rattle.text.specs.declared.Written.{Written}
use Rattle.notice.specs.Writing.{unwritten, writing, written, WroteAt}
use Rattle.notice.specs.Laws.Text.{wrote-latest}
use Rattle.board.specs.declared.Board.{Board}
use Rattle.boardnotice.specs.declared.Details.{Details}
use Rattle.board.specs.Board.{places, reported, valid_board}
use Rattle.text.specs.Refusals.{wrong_board, no_report}
use Rattle.boardnotice.specs.Writing.{board_record, writing_board, written_board, WroteBoard}
use Rattle.boardnotice.specs.Laws.Writing.{few-reported, board-latest}
use Rattle.text.specs.Laws.Arrays.{next_place}

-- c rows are in the array L, and rs come behind them
abbrev pub rows_onto : ℕ → List Row → List Row → Rows
rows_onto c L rs = record { count = c + length rs; rows = sets L c rs }

-- one law for each case of a step of the loop over places
pub shown-all : (rows : List Row) → length rows ≤ places → rows_onto 0 (replicate places blank_row) (reported rows) ≡ make_rows (reported rows)
shown-all rows h =
    let z : 0 + length (reported rows) ≡ length (reported rows) = omega arith in
    let e = over_zeros blank_row places (reported rows) (omega (arith, few-reported rows)) in
    λ i. record { count = z i; rows = e i }

module _ (rows : List Row) (i : ℕ) (c : ℕ) (L : List Row) where
  pub shown-end : length rows ≤ i → record { count = c; rows = L } ≡ rows_onto c L (reported (drop i rows))
  unfolding reported
  shown-end h = let z : c + 0 ≡ c = omega arith in rw (drop_of_length-le rows h, z)

  module _ (d : Row) (h : i < length rows) where
    pub shown-off : is_blank_row (get_or rows i d) ≡ true → rows_onto c L (reported (drop i rows)) ≡ rows_onto c L (reported (drop (i + 1) rows))
    unfolding reported
    shown-off e = ap (λ rs. rows_onto c L (reported rs)) (next_place d rows i h) ∙ rw e

    pub shown-on : is_blank_row (get_or rows i d) ≡ false → rows_onto c L (reported (drop i rows)) ≡ rows_onto (c + 1) (set L c (get_or rows i d)) (reported (drop (i + 1) rows))
    unfolding reported
    shown-on e =
        let n : c + suc (length (reported (drop (i + 1) rows))) ≡ c + 1 + length (reported (drop (i + 1) rows)) = omega arith in
        ap (λ rs. rows_onto c L (reported rs)) (next_place d rows i h) ∙ rw (e, n, add-one c)

none-shown : (rs : List Row) → is_empty rs ≡ eqb (length rs) 0
none-shown [] = refl
none-shown (r ∷ rs) = sym (ne_eqb (suc (length rs)) 0 (omega arith))

-- the ways out of writing, by the record of the board
module _ (b : Board) (d : Details) (i : Items) (l : Language) where
  pub wrote-17 : {before : List ℕ} → valid_board b ≡ false → WroteBoard b d i l before before (unwritten wrong_board)
  unfolding writing_board written_board
  wrote-17 h = record { answer = rw h; holds = rw h }

  module _ (v : valid_board b ≡ true) {r : Record} (e : r ≡ board_record b d i l) where
    counts : is_empty (reported b.rows) ≡ eqb r.rows.count 0
    counts = none-shown (reported b.rows) ∙ sym (ap (λ (s : Record). eqb s.rows.count 0) e)

    pub wrote-21 : {before : List ℕ} → r.rows.count ≡ 0 → WroteBoard b d i l before before (unwritten no_report)
    unfolding writing_board written_board
    wrote-21 h = let k = counts ∙ eq-eqb r.rows.count 0 h in record { answer = rw (v, k); holds = rw (v, k) }

    pub wrote-record : {before after : List ℕ} {w : Written} → (r.rows.count ≡ 0 → ⊥) → WroteAt b.latest r before after w → WroteBoard b d i l before after w
    unfolding writing_board written_board
    wrote-record {before} h p =
        let k = counts ∙ ne_eqb r.rows.count 0 h in
        let q = wrote-latest b.latest r (board-latest b v ∙ sym (ap (λ (s : Record). latest (rows_of s.rows)) e)) p in
        record { answer = rw (v, k) (q.answer ∙ ap (λ (s : Record). writing s (length before)) e); holds = rw (v, k) (q.holds ∙ ap (λ (s : Record). written s before) e) }
