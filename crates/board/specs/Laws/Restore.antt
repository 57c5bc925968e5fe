-- The rows that a board shows make that board anew.
use Rattle.std.specs.Prelude.{ℕ, suc, ◌<◌, ◌≡◌, refl, cond, Bool, true, false, ◌⊎◌, get_or}
use Rattle.std.proofs.Common.{sym, subst, ◌∙◌, ap, inl, inr, get_or-take, arith}
use mathlib.Core.List.Memᴰ
use mathlib.Core.List.{List, [], ◌∷◌, Memᴰ}
use Rattle.std.proofs.Math.Decide.{dec_lt}
use Rattle.text.specs.Laws.Base.{true-false, and-1, and-2, and_i}
use Rattle.row.specs.declared.Row.{Row}
use Rattle.row.specs.Row.{blank_row, is_blank_row}
use Rattle.board.specs.declared.Board.{Board}
use Rattle.board.specs.Board.{blank_runway, names, fits_place, runways_of, reported, valid_opening, valid_board}
use Rattle.board.specs.Report.{place_for, row_at, owner_at}
use Rattle.board.specs.Runs.{◌sends◌}
use Rattle.board.specs.Shows.{runway_at, ReportFor}
use Rattle.board.specs.Laws.Rules.{fit_at, fit-past, place_is, rules, used}

-- the rows shown and their places
record Placed (rs : List Row) (q : Row) : Type 0 where
  place : ℕ
  is : get_or rs place blank_row ≡ q
  seen : is_blank_row q ≡ false

on : {r q : Row} {rs : List Row} → Placed rs q → Placed (r ∷ rs) q
on p = record { place = suc p.place; is = p.is; seen = p.seen }

reported-in : (rs : List Row) (q : Row) → Memᴰ q (reported rs) → Placed rs q
unfolding reported
reported-in [] q m = absurd (Memᴰ.not-nil m)
reported-in (r ∷ rs) q m = go (is_blank_row r) refl m (reported-in rs q)
  where
    at : is_blank_row r ≡ false → (q ≡ r) ⊎ Memᴰ q (reported rs) → (Memᴰ q (reported rs) → Placed rs q) → Placed (r ∷ rs) q
    at e (inl i) ih = record { place = 0; is = sym i; seen = ap is_blank_row i ∙ e }
    at e (inr n) ih = on (ih n)

    go : (t : Bool) → is_blank_row r ≡ t → Memᴰ q (cond t (reported rs) (r ∷ reported rs)) → (Memᴰ q (reported rs) → Placed rs q) → Placed (r ∷ rs) q
    go true e m ih = on (ih m)
    go false e m ih = at e (Memᴰ.cases_cons m) ih

module _ (b : Board) (v : valid_board b ≡ true) where
  -- a row shown stands in a place in use, is valid and names that place's runway
  in_use : (j : ℕ) → is_blank_row (row_at b j) ≡ false → Dec (j < b.count) → j < b.count
  in_use j e (yes l) = l
  in_use j e (no l) = let u = used b (rules b v) in true-false (sym (fit-past (runways_of b) b.rows j (rules b v).fit (omega arith)) ∙ e)

  pub in_place : (j : ℕ) → is_blank_row (row_at b j) ≡ false → j < b.count
  in_place j e = in_use j e (dec_lt j b.count)

  pub own_row : (j : ℕ) → j < b.count → is_blank_row (row_at b j) ≡ false → ReportFor (runway_at b j) (owner_at b j) (owner_at b j sends row_at b j)
  unfolding fits_place
  own_row j l e =
      let u = used b (rules b v) in
      let f = rw (get_or-take b.count b.runways j blank_runway l) at (fit_at blank_runway (runways_of b) b.rows j (rules b v).fit (omega arith)) in
      let k = rw e at f in
      record { sender = refl; valid = and-1 _ _ k; named = and-2 _ _ k }

  -- a row that names the runway of a place has that place
  pub here : (q : Row) (i : ℕ) → i < b.count → names q (runway_at b i) ≡ true → place_for b q ≡ i
  here q i l n =
      let u = used b (rules b v) in
      place_is blank_runway blank_runway q (runways_of b) i (rules b v).rise (omega arith) (rw (get_or-take b.count b.runways i blank_runway l) n)

  -- where a row shown stands
  pub placed : (q : Row) → Memᴰ q (reported b.rows) → (j : ℕ) × (j < b.count) × (row_at b j ≡ q) × (is_blank_row (row_at b j) ≡ false)
  placed q m =
      let p = reported-in b.rows q m in
      let e = ap is_blank_row p.is ∙ p.seen in
      (p.place, in_place p.place e, p.is, e)

  -- so a row shown that names the runway of a place is that place's
  pub only_one : (i : ℕ) → i < b.count → (q : Row) → Memᴰ q (reported b.rows) → names q (runway_at b i) ≡ true → row_at b i ≡ q
  only_one i l q m n =
      let (j, u, is, e) = placed q m in
      let f = subst (λ r. names r (runway_at b j) ≡ true) is (own_row j u e).named in
      ap (row_at b) (sym (here q i l n) ∙ here q j u f) ∙ is

  -- a board's list and owners can be opened anew
  pub opens-anew : valid_opening b.aerodrome b.count b.runways b.owners ≡ true
  unfolding valid_opening
  opens-anew = and_i (rules b v).list (rules b v).owned
