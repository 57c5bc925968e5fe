-- What writing a board gives, and that buffers of one length get the same notice of it, whatever they hold (demand 3).
use Rattle.std.specs.Prelude.{ℕ, ◌≤◌, ◌≡◌, not, Bool, eqb, leb, length, take}
use Rattle.std.proofs.Math.Path.{refl, sym}
use Rattle.std.proofs.Common.{subst, ◌∙◌, ap, arith}
use mathlib.Core.List.{List, [], map, Permᴰ}
use Rattle.std.proofs.Math.Bool.{cond, true, false}
use Rattle.text.specs.Choice.{◌and◌, all, is_empty}
use Rattle.text.specs.Arrays.{is_zero}
use Rattle.row.specs.declared.Row.{Row}
use Rattle.body.specs.Rows.{rows_of}
use Rattle.body.specs.Laws.Parts.{rows-kept}
use Rattle.items.specs.declared.Items.{Items}
use Rattle.items.specs.declared.Language.{Language}
use Rattle.record.specs.declared.Record.{Record}
use Rattle.text.specs.declared.Written.{Written}
use Rattle.record.specs.Record.{valid_record, blank_record}
use Rattle.record.specs.Notice.{notice_text_at, notice_text}
use Rattle.record.specs.Answer.{accepted}
use Rattle.record.specs.Laws.{notice-latest}
use Rattle.notice.specs.Reading.{reading}
use Rattle.notice.specs.Writing.{unwritten, writing, written}
use Rattle.notice.specs.Theorems.{Filled, untouched, wrote-filled, back, read-valid, refused-blank}
use Rattle.board.specs.declared.Board.{Board}
use Rattle.boardnotice.specs.declared.Details.{Details}
use Rattle.board.specs.Board.{reported, valid_board, valid_opening, valid_list, is_aerodrome, blank_board}
use Rattle.board.specs.Runs.{by_owner, reports, answers_to}
use Rattle.board.specs.Theorems.{afresh}
use Rattle.board.proofs.Theorems.{restores, restores-taken}
use Rattle.frontlines.specs.Letters.{is_letters}
use Rattle.desktext.specs.Desk.{desk_board}
use Rattle.frontlines.specs.Addresses.{valid_addresses}
use Rattle.boardnotice.specs.Writing.{board_record, writing_board, written_board, WroteBoard}
use Rattle.boardnotice.specs.DeskNotice.{details_of, WroteDeskNotice}
use Rattle.boardnotice.specs.Laws.Writing.{board-latest, rows-good, board-record, board-written}

-- the board's notice is written: as many bytes as are answered are its text, none where the writing is refused, and then every byte is as before
pub board-filled : {b : Board} {d : Details} {i : Items} {l : Language} {before after : List ℕ} {w : Written} → WroteBoard b d i l before after w
    → Filled (notice_text (board_record b d i l)) before after w
unfolding writing_board written_board
board-filled {b} {d} {i} {l} {before} {after} {w} p = go (valid_board b) (is_empty (reported b.rows)) p.answer p.holds
  where
    r : Record
    r = board_record b d i l

    go : (t u : Bool) → w ≡ cond t (cond (not u) (writing r (length before)) (unwritten 21)) (unwritten 17)
        → after ≡ cond t (cond u before (written r before)) before → Filled (notice_text r) before after w
    go true true e f = untouched (notice_text r) 21 (λ z. omega arith) e f
    go true false e f = (wrote-filled (record { answer = e; holds = f })).0
    go false u e f = untouched (notice_text r) 17 (λ z. omega arith) e f

-- its heading bears the stored time
pub heading-bears : {b : Board} {d : Details} {i : Items} {l : Language} {before after : List ℕ} {w : Written} → WroteBoard b d i l before after w
    → Filled (notice_text_at b.latest (board_record b d i l)) before after w
unfolding writing_board written_board
heading-bears {b} {d} {i} {l} {before} {after} {w} p = go (valid_board b) refl
  where
    r : Record
    r = board_record b d i l

    go : (t : Bool) → valid_board b ≡ t → Filled (notice_text_at b.latest r) before after w
    go true v = subst (λ text. Filled text before after w) (sym (ap (λ t. notice_text_at t r) (board-latest b v) ∙ notice-latest r)) (board-filled p)
    go false v = untouched (notice_text_at b.latest r) 17 (λ z. omega arith) (rw v at p.answer) (rw v at p.holds)

-- so one board gives buffers of one length, whatever they hold, the same answer and the same bytes
pub one-notice : {b : Board} {d : Details} {i : Items} {l : Language} {x₀ x y₀ y : List ℕ} {v w : Written} → WroteBoard b d i l x₀ x v
    → WroteBoard b d i l y₀ y w → length x₀ ≡ length y₀ → (v ≡ w) × (take v.length x ≡ take w.length y)
one-notice {b} {d} {i} {l} p q e =
    let same = p.answer ∙ (ap (writing_board b d i l) e ∙ sym q.answer) in
    (same, (board-filled p).front ∙ (ap (λ u. cond (eqb u.refusal 0) (notice_text (board_record b d i l)) []) same ∙ sym (board-filled q).front))

-- writing a board: 17, 21, and then the notice of its record with 13, 14
module _ (b : Board) (d : Details) (i : Items) (l : Language) (room : ℕ) where
  pub writes-17 : valid_board b ≡ false → writing_board b d i l room ≡ unwritten 17
  unfolding writing_board
  writes-17 h = rw h

  module _ (v : valid_board b ≡ true) where
    pub writes-21 : reported b.rows ≡ [] → writing_board b d i l room ≡ unwritten 21
    unfolding writing_board
    writes-21 e = rw (v, e)

    pub writes : is_empty (reported b.rows) ≡ false → writing_board b d i l room ≡ writing (board_record b d i l) room
    unfolding writing_board
    writes e = rw (v, e)

-- with the details, items and plain language of any valid record, every board that shows a row is written if there is room: 13 never comes by the board
pub board-writes : (b : Board) → valid_board b ≡ true → is_empty (reported b.rows) ≡ false → (r : Record) → valid_record r ≡ true → (room : ℕ)
    → length (notice_text (board_record b (details_of r) r.items r.language)) ≤ room
    → (writing_board b (details_of r) r.items r.language room).refusal ≡ 0
board-writes b v some r h room fits = ap (λ w. w.refusal) (board-written b v some r h room fits)

-- "A notice carries its board": what is written of a board reads back as its record, and the rows read, given in any order to a fresh board with the same
-- aerodrome, runways and owners, each by its own desk, make the board anew
module _ {b : Board} {d : Details} {i : Items} {l : Language} {before after : List ℕ} {w : Written} (p : WroteBoard b d i l before after w) (z : w.refusal ≡ 0) where
  pub board-was : (valid_board b ≡ true) × (is_empty (reported b.rows) ≡ false) × (valid_record (board_record b d i l) ≡ true)
  unfolding writing_board written_board
  board-was = go (valid_board b) refl (is_empty (reported b.rows)) refl p.answer p.holds
    where
      go : (t : Bool) → valid_board b ≡ t → (u : Bool) → is_empty (reported b.rows) ≡ u
          → w ≡ cond t (cond (not u) (writing (board_record b d i l) (length before)) (unwritten 21)) (unwritten 17)
          → after ≡ cond t (cond u before (written (board_record b d i l) before)) before
          → (valid_board b ≡ true) × (is_empty (reported b.rows) ≡ false) × (valid_record (board_record b d i l) ≡ true)
      go true v false s e f = (v, s, (wrote-filled (record { answer = e; holds = f })).1 z)
      go true v true s e f = let k = sym (ap (λ x. x.refusal) e) ∙ z in absurd (omega arith)
      go false v u s e f = let k = sym (ap (λ x. x.refusal) e) ∙ z in absurd (omega arith)

  -- the record that is read
  pub board-back : reading (take w.length after) ≡ accepted (board_record b d i l)
  board-back = ap reading ((board-filled p).front ∙ ap (λ n. cond (eqb n 0) (notice_text (board_record b d i l)) []) z) ∙ back (board_record b d i l) board-was.2

  -- has the rows that the board shows
  pub rows_back : rows_of (reading (take w.length after)).«record».rows ≡ reported b.rows
  rows_back = ap (λ a. rows_of a.«record».rows) board-back ∙ rows-kept (reported b.rows) (rows-good b board-was.0 board-was.1)

  pub carries : (rs : List Row) → Permᴰ rs (rows_of (reading (take w.length after)).«record».rows) → reports (afresh b) (map (by_owner (afresh b)) rs) ≡ b
  carries rs moved = restores b board-was.0 rs (subst (Permᴰ rs) rows_back moved)

  -- and each of them is taken
  pub carries-taken : (rs : List Row) → Permᴰ rs (rows_of (reading (take w.length after)).«record».rows) → (n : ℕ)
      → all is_zero (answers_to n (afresh b) (map (by_owner (afresh b)) rs)) ≡ true
  carries-taken rs moved = restores-taken b board-was.0 rs (subst (Permᴰ rs) rows_back moved)

-- the promise leaves no choice
pub wrote_one : {b : Board} {d : Details} {i : Items} {l : Language} {before x y : List ℕ} {v w : Written} → WroteBoard b d i l before x v
    → WroteBoard b d i l before y w → (v ≡ w) × (x ≡ y)
wrote_one p q = (p.answer ∙ sym q.answer, p.holds ∙ sym q.holds)

-- the details of a refused model make no record
no-model : (b : Board) (i : Items) (l : Language) → valid_record (board_record b (details_of blank_record) i l) ≡ false
unfolding valid_record valid_addresses ◌and◌
no-model b i l = refl

-- a desk's input written as a notice
module _ (desk model : List ℕ) {before after : List ℕ} {w : Written} (p : WroteDeskNotice desk model before after w) where
  -- 17 where no board opens: the desk keeps the blank one
  pub unopened : desk_board desk ≡ blank_board → w ≡ unwritten 17
  unfolding valid_board valid_opening valid_list is_aerodrome is_letters ◌and◌
  unopened e = p.answer ∙ writes-17 _ _ _ _ _ (ap valid_board e)

  module _ (v : valid_board (desk_board desk) ≡ true) where
    -- 21 where it has no report
    pub unreported : reported (desk_board desk).rows ≡ [] → w ≡ unwritten 21
    unreported e = p.answer ∙ writes-21 _ _ _ _ _ v e

    module _ (some : is_empty (reported (desk_board desk).rows) ≡ false) where
      -- 13 where the model is refused
      pub unmodelled : ((reading model).refusal ≡ 0 → ⊥) → w ≡ unwritten 13
      unfolding writing
      unmodelled refused =
          p.answer ∙ writes _ _ _ _ _ v some
          ∙ (rw (refused-blank model refused, no-model (desk_board desk) blank_record.items blank_record.language) refl)

      -- else the board's notice with what the model says, or 14
      pub modelled : (reading model).refusal ≡ 0
          → let r = (reading model).«record» in
          let text = notice_text (board_record (desk_board desk) (details_of r) r.items r.language) in
          w ≡ cond (leb (length text) (length before)) (record { refusal = 0; length = length text }) (unwritten 14)
      unfolding writing
      modelled ok =
          p.answer ∙ writes _ _ _ _ _ v some
          ∙ (rw (board-record (desk_board desk) v some (reading model).«record» (read-valid model (reading model) refl ok)) refl)
