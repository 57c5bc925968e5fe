-- The rules are kept: opening makes them hold, no report breaks them or alters the aerodrome, the list and its owners.
use Rattle.std.specs.Prelude.{ℕ, zero, suc, ◌<◌, ◌≡◌, refl, List, [], ◌∷◌, cond, Bool, true, false, eqb, ltb, length, get_or, set}
use Rattle.std.proofs.Common.{sym, subst, ◌∙◌, ap, length-set, arith}
use borrow.Author.Tests.{eqb-true, eq-eqb, ltb-true, lt-ltb}
use Rattle.text.specs.Laws.Base.{true-false, and-1, and-2, and_i}
use Rattle.row.specs.declared.Row.{Row}
use Rattle.row.specs.Row.{valid_row}
use Rattle.text.specs.Refusals.{invalid_row, wrong_board, not_on_board, not_later, others_runway, no_desk}
use Rattle.board.specs.declared.Runway.{Runway}
use Rattle.board.specs.declared.Board.{Board}
use Rattle.board.specs.Board.{blank_runway, fits_place, fit_places, valid_places, runways_of}
use Rattle.board.specs.Board.{is_desk, latest_shown, valid_opening, valid_board}
use Rattle.board.specs.Report.{place_for, row_at, owner_at, is_news, refusal, newest, stored, report}
use Rattle.board.specs.declared.Sent.{Sent}
use Rattle.board.specs.Runs.{reports}
use Rattle.board.specs.Laws.Latest.{latest-set}
use Rattle.board.specs.Laws.Rules.{used, fits-valid, rules, goods, takes, Took, took-names, report-board, SameList, same-trans}

fit-set : (d : Runway) (ws : List Runway) (rs : List Row) (i : ℕ) (r : Row) → fit_places ws rs ≡ true → i < length ws → fits_place (get_or ws i d) r ≡ true
    → fit_places ws (set rs i r) ≡ true
unfolding fit_places
fit-set d [] rs i r h l f = absurd (omega arith)
fit-set d (w ∷ ws) [] i r h l f = refl
fit-set d (w ∷ ws) (s ∷ rs) zero r h l f = and_i f (and-2 _ _ h)
fit-set d (w ∷ ws) (s ∷ rs) (suc i) r h l f = and_i (and-1 _ _ h) (fit-set d ws rs i r (and-2 _ _ h) (omega arith) f)

module _ (b : Board) (d : ℕ) (r : Row) (v : valid_board b ≡ true) (k : is_desk d ≡ true) (g : valid_row r ≡ true) (h : place_for b r < b.count) where
  pub refused-22 : eqb d (owner_at b (place_for b r)) ≡ false → refusal b d r ≡ others_runway
  unfolding refusal
  refused-22 o = rw (v, k, g, lt-ltb (place_for b r) b.count h, o)

  module _ (o : eqb d (owner_at b (place_for b r)) ≡ true) where
    pub refused-20 : is_news r (row_at b (place_for b r)) ≡ false → refusal b d r ≡ not_later
    unfolding refusal
    refused-20 n = rw (v, k, g, lt-ltb (place_for b r) b.count h, o, n)

    pub refused-0 : is_news r (row_at b (place_for b r)) ≡ true → refusal b d r ≡ 0
    unfolding refusal
    refused-0 n = rw (v, k, g, lt-ltb (place_for b r) b.count h, o, n)

pub took : (b : Board) (d : ℕ) (r : Row) → takes b d r ≡ true → Took b d r
unfolding refusal
took b d r = go (valid_board b) refl (is_desk d) (valid_row r) refl (ltb (place_for b r) b.count) refl (eqb d (owner_at b (place_for b r))) refl
    (is_news r (row_at b (place_for b r))) refl
  where
    go : (x : Bool) → valid_board b ≡ x → (y z : Bool) → valid_row r ≡ z → (p : Bool) → ltb (place_for b r) b.count ≡ p → (o : Bool)
        → eqb d (owner_at b (place_for b r)) ≡ o → (n : Bool) → is_news r (row_at b (place_for b r)) ≡ n
        → eqb (cond x (cond y (cond z (cond p (cond o (cond n 0 not_later) others_runway) not_on_board) invalid_row) no_desk) wrong_board) 0 ≡ true → Took b d r
    go false e₁ y z e₂ p e₃ o e₄ n e₅ h = true-false (sym h)
    go true e₁ false z e₂ p e₃ o e₄ n e₅ h = true-false (sym h)
    go true e₁ true false e₂ p e₃ o e₄ n e₅ h = true-false (sym h)
    go true e₁ true true e₂ false e₃ o e₄ n e₅ h = true-false (sym h)
    go true e₁ true true e₂ true e₃ false e₄ n e₅ h = true-false (sym h)
    go true e₁ true true e₂ true e₃ true e₄ false e₅ h = true-false (sym h)
    go true e₁ true true e₂ true e₃ true e₄ true e₅ h =
        record { good = e₁; valid = e₂; place = ltb-true (place_for b r) b.count e₃; owner = eqb-true d (owner_at b (place_for b r)) e₄; news = e₅ }

pub stored-valid : (b : Board) (d : ℕ) (r : Row) → Took b d r → valid_board (stored b (place_for b r) r) ≡ true
unfolding valid_board valid_opening valid_places
stored-valid b d r t =
    let k = rules b t.good in
    let u = used b k in
    let p = t.place in
    let f = fits-valid (get_or (runways_of b) (place_for b r) blank_runway) r t.valid (took-names b d r t) in
    let few = k.few in
    let high = k.high in
    let rows = set b.rows (place_for b r) r in
    let time = latest-set b.rows (place_for b r) r (goods (runways_of b) b.rows k.fit) (omega arith) t.valid t.news in
    and_i (and_i k.list k.owned) (and_i (and_i (eq-eqb (length rows) 8 (length-set b.rows (place_for b r) r ∙ k.high))
    (fit-set blank_runway (runways_of b) b.rows (place_for b r) r k.fit (omega arith) f))
    (eq-eqb (newest b.latest r.time) (latest_shown rows) (ap (λ s. newest s r.time) k.latest ∙ sym time)))

pub report-valid : (b : Board) (d : ℕ) (r : Row) → valid_board b ≡ true → valid_board (report b d r).board ≡ true
report-valid b d r v = subst (λ c. valid_board c ≡ true) (sym (report-board b d r)) (go (takes b d r) refl)
  where
    go : (t : Bool) → takes b d r ≡ t → valid_board (cond t (stored b (place_for b r) r) b) ≡ true
    go true e = stored-valid b d r (took b d r e)
    go false e = v

same_self : (b : Board) → SameList b b
same_self b = record { aerodrome = refl; count = refl; runways = refl; owners = refl }

pub report-list : (b : Board) (d : ℕ) (r : Row) → SameList b (report b d r).board
report-list b d r = subst (SameList b) (sym (report-board b d r)) (go (takes b d r))
  where
    go : (t : Bool) → SameList b (cond t (stored b (place_for b r) r) b)
    go true = record { aerodrome = refl; count = refl; runways = refl; owners = refl }
    go false = same_self b

pub reports-valid : (b : Board) (xs : List Sent) → valid_board b ≡ true → valid_board (reports b xs) ≡ true
unfolding reports
reports-valid b [] v = v
reports-valid b (x ∷ xs) v = reports-valid (report b x.desk x.row).board xs (report-valid b x.desk x.row v)

pub reports-list : (b : Board) (xs : List Sent) → SameList b (reports b xs)
unfolding reports
reports-list b [] = same_self b
reports-list b (x ∷ xs) = same-trans (report-list b x.desk x.row) (reports-list (report b x.desk x.row).board xs)
