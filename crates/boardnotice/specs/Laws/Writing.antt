-- Writing a board: its rows always make a valid part of a record, so that 13 comes only by the details, the items or the plain language.
use Rattle.std.specs.Prelude.{ℕ, suc, ◌≤◌, ◌≡◌, refl, List, [], ◌∷◌, ◌++◌, cond, Bool, true, false, length}
use Rattle.std.proofs.Common.{sym, ◌∙◌, ap, arith}
use borrow.Author.Tests.{eqb-true, eq-eqb, le-leb}
use Rattle.text.specs.Choice.{all, is_empty}
use Rattle.text.specs.Laws.Base.{and-1, and-2, and_i}
use Rattle.text.specs.Laws.Arrays.{take-front}
use Rattle.row.specs.declared.Row.{Row}
use Rattle.row.specs.Row.{valid_row, is_blank_row}
use Rattle.frontlines.specs.Heading.{valid_title}
use Rattle.body.specs.Rows.{rows_of, make_rows, same_runway, is_among, new_runways, latest}
use Rattle.body.specs.Laws.Parts.{GoodRows, rows-valid}
use Rattle.record.specs.declared.Record.{Record}
use Rattle.record.specs.Record.{valid_record}
use Rattle.record.specs.Notice.{notice_text}
use Rattle.notice.specs.Writing.{writing}
use Rattle.board.specs.declared.Runway.{Runway}
use Rattle.board.specs.declared.Board.{Board}
use Rattle.boardnotice.specs.declared.Details.{Details}
use Rattle.board.specs.Board.{blank_runway, comes_before, rises, rising, is_aerodrome, valid_list, names, fits_place, fit_places, runways_of}
use Rattle.board.specs.Board.{reported, latest_shown, valid_board}
use Rattle.boardnotice.specs.Writing.{board_record, writing_board}
use Rattle.boardnotice.specs.DeskNotice.{details_of}
use Rattle.board.specs.Laws.Rules.{before-trans, before-apart, rules}

-- a place holds zeros, or a valid row of its runway
record RowOf (w : Runway) (r : Row) : Type 0 where
  valid : valid_row r ≡ true
  named : names r w ≡ true

held : (w : Runway) (r : Row) → is_blank_row r ≡ false → fits_place w r ≡ true → RowOf w r
unfolding fits_place
held w r e h = let k = rw e at h in record { valid = and-1 _ _ k; named = and-2 _ _ k }

none-reported : (rs : List Row) → all is_blank_row rs ≡ true → reported rs ≡ []
unfolding reported
none-reported [] h = refl
none-reported (r ∷ rs) h = rw (and-1 _ _ h) (none-reported rs (and-2 _ _ h))

all_valid : (ws : List Runway) (rs : List Row) → fit_places ws rs ≡ true → all valid_row (reported rs) ≡ true
unfolding fit_places reported
all_valid [] rs h = rw (none-reported rs h)
all_valid (w ∷ ws) [] h = refl
all_valid (w ∷ ws) (r ∷ rs) h = go (is_blank_row r) refl (all_valid ws rs (and-2 _ _ h))
  where
    go : (t : Bool) → is_blank_row r ≡ t → all valid_row (reported rs) ≡ true → all valid_row (cond t (reported rs) (r ∷ reported rs)) ≡ true
    go true e ih = ih
    go false e ih = and_i (held w r e (and-1 _ _ h)).valid ih

-- no row of a runway past v is among those seen
Past : Runway → List Row → Type 0
Past v seen = (q : Row) (u : Runway) → comes_before v u ≡ true → names q u ≡ true → is_among q seen ≡ false

past-on : (v w : Runway) (seen : List Row) → comes_before v w ≡ true → Past v seen → Past w seen
unfolding Past
past-on v w seen b p q u c n = p q u (before-trans v w u b c) n

among-last : (q r : Row) (seen : List Row) → is_among q seen ≡ false → same_runway r q ≡ false → is_among q (seen ++ (r ∷ [])) ≡ false
unfolding is_among
among-last q r [] h e = rw e
among-last q r (s ∷ seen) h e = go (same_runway s q) refl h (among-last q r seen)
  where
    go : (t : Bool) → same_runway s q ≡ t → cond t true (is_among q seen) ≡ false
        → (is_among q seen ≡ false → same_runway r q ≡ false → is_among q (seen ++ (r ∷ [])) ≡ false)
        → cond t true (is_among q (seen ++ (r ∷ []))) ≡ false
    go true x k ih = k
    go false x k ih = ih k e

past-with : (w : Runway) (r : Row) (seen : List Row) → names r w ≡ true → Past w seen → Past w (seen ++ (r ∷ []))
unfolding Past names same_runway
past-with w r seen m p q u c n = among-last q r seen (p q u c n) (differ (same_runway r q) refl)
  where
    differ : (t : Bool) → same_runway r q ≡ t → t ≡ false
    differ false e = refl
    differ true e =
        let i = eqb-true r.number q.number (and-1 _ _ e) in
        let j = eqb-true r.side q.side (and-2 _ _ e) in
        let k = eqb-true r.number w.number (and-1 _ _ m) in
        let l = eqb-true r.side w.side (and-2 _ _ m) in
        sym (and_i (eq-eqb q.number w.number (sym i ∙ k)) (eq-eqb q.side w.side (sym j ∙ l))) ∙ before-apart q w u c n

new-runways : (v : Runway) (ws : List Runway) (rs seen : List Row) → rising v ws ≡ true → fit_places ws rs ≡ true → Past v seen
    → new_runways seen (reported rs) ≡ true
unfolding rising rises fit_places reported new_runways Past
new-runways v [] rs seen h f p = rw (none-reported rs f)
new-runways v (w ∷ ws) [] seen h f p = refl
new-runways v (w ∷ ws) (r ∷ rs) seen h f p = go (is_blank_row r) refl (λ s k. new-runways w ws rs s (and-2 _ _ h) (and-2 _ _ f) k)
  where
    above : comes_before v w ≡ true
    above = and-2 _ _ (and-1 _ _ h)

    go : (t : Bool) → is_blank_row r ≡ t → ((s : List Row) → Past w s → new_runways s (reported rs) ≡ true)
        → new_runways seen (cond t (reported rs) (r ∷ reported rs)) ≡ true
    go true e ih = ih seen (past-on v w seen above p)
    go false e ih =
        let k = held w r e (and-1 _ _ f) in
        let n = p r w above k.named in
        and_i (rw n) (ih (seen ++ (r ∷ [])) (past-with w r seen k.named (past-on v w seen above p)))

past-none : Past blank_runway []
unfolding Past is_among
past-none q u c n = refl

pub few-reported : (rs : List Row) → length (reported rs) ≤ length rs
unfolding reported
few-reported [] = omega arith
few-reported (r ∷ rs) = go (is_blank_row r) (few-reported rs)
  where
    go : (t : Bool) → length (reported rs) ≤ length rs → length (cond t (reported rs) (r ∷ reported rs)) ≤ suc (length rs)
    go true h = omega arith
    go false h = omega arith

-- the stored time is the latest of the rows that the notice shows
pub board-latest : (b : Board) → valid_board b ≡ true → b.latest ≡ latest (rows_of (make_rows (reported b.rows)))
unfolding latest_shown
board-latest b v = (rules b v).latest ∙ ap latest (sym (take-front (reported b.rows) _))

module _ (b : Board) (v : valid_board b ≡ true) (some : is_empty (reported b.rows) ≡ false) where
  -- the rows of a board that shows one are valid, at most eight, and no runway twice
  pub rows-good : GoodRows (reported b.rows)
  rows-good =
      let k = rules b v in
      let n = few-reported b.rows in
      let w = k.high in
      record {
        valid = all_valid (runways_of b) b.rows k.fit;
        other = new-runways blank_runway (runways_of b) b.rows [] k.rise k.fit past-none;
        few = omega arith;
        some = some;
      }

  -- details, items and plain language that stand in some valid record make a valid record with every board that shows a row
  module _ (r : Record) (h : valid_record r ≡ true) where
    abbrev details : Details
    details = details_of r

    pub board-record : valid_record (board_record b details r.items r.language) ≡ true
    unfolding valid_record valid_title valid_list is_aerodrome
    board-record =
        let h₁ = and-2 _ _ h in
        let h₂ = and-2 _ _ h₁ in
        let h₃ = and-2 _ _ h₂ in
        let t = and-1 _ _ h₂ in
        let title = and_i (and-1 _ _ t) (and_i (and-1 _ _ (and-2 _ _ t)) (and-1 _ _ (rules b v).list)) in
        and_i (and-1 _ _ h) (and_i (and-1 _ _ h₁) (and_i title (and_i (rows-valid (reported b.rows) rows-good) (and-2 _ _ h₃))))

    -- such a board is written, if there is room
    pub board-written : (room : ℕ) → length (notice_text (board_record b details r.items r.language)) ≤ room
        → writing_board b details r.items r.language room
        ≡ record { refusal = 0; length = length (notice_text (board_record b details r.items r.language)) }
    unfolding writing_board writing
    board-written room fits = rw (v, some, board-record, le-leb (length (notice_text (board_record b details r.items r.language))) room fits)
