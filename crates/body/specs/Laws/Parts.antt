-- Rows in their array: valid ones are held, and what is held is valid; the latest time.
use Rattle.std.specs.Prelude.{ℕ, suc, ◌≤◌, ◌≡◌, refl, cond, Bool, true, false, leb, length}
use Rattle.std.proofs.Common.{sym, eqb-true, eq-eqb, leb-true, le-leb, arith}
use Rattle.std.proofs.Math.Path.{subst}
use mathlib.Core.List.{List, [], ◌∷◌}
use Rattle.text.specs.Choice.{◌and◌, all, is_empty}
use Rattle.text.specs.Arrays.{pad}
use Rattle.text.specs.Laws.Base.{true-false, and-1, and-2, and_i}
use Rattle.text.specs.Laws.Arrays.{array-there, array_back}
use Rattle.runway.specs.Time.{real_time, later}
use Rattle.row.specs.declared.Row.{Row}
use Rattle.surface.specs.Third.{is_blank_third}
use Rattle.row.specs.Row.{valid_row, blank_row, is_blank_row, three_that}
use Rattle.row.specs.Laws.Row.{blank-row}
use Rattle.body.specs.declared.Rows.{Rows}
use Rattle.body.specs.Rows.{most_rows, rows_of, make_rows, new_runways, latest_of, latest_from, latest, valid_rows}

-- what is used of rows
blank-blank : is_blank_row blank_row ≡ true
unfolding is_blank_row three_that is_blank_third ◌and◌
blank-blank = refl

row-real : (r : Row) → valid_row r ≡ true → real_time r.time ≡ true
unfolding valid_row
row-real r h = and-1 _ _ h

-- rows that a notice may have
pub record GoodRows (rs : List Row) : Type 0 where
  pub valid : all valid_row rs ≡ true
  pub other : new_runways [] rs ≡ true
  pub few : length rs ≤ most_rows
  pub some : is_empty rs ≡ false

counts : {A : Type 0} (l : List A) → is_empty l ≡ false → leb 1 (length l) ≡ true
counts [] h = true-false h
counts (a ∷ l) h = le-leb 1 (suc (length l)) (omega arith)

filled : {A : Type 0} (l : List A) (c : ℕ) → length l ≡ c → leb 1 c ≡ true → is_empty l ≡ false
filled [] c e h = let k = leb-true 1 c h in absurd (omega arith)
filled (a ∷ l) c e h = refl

module _ (rs : List Row) (g : GoodRows rs) where
  pub rows-kept : rows_of (make_rows rs) ≡ rs
  rows-kept = (array-there blank_row is_blank_row blank-row blank-blank most_rows rs g.few).1

  pub rows-valid : valid_rows (make_rows rs) ≡ true
  unfolding valid_rows
  rows-valid =
      let a = array-there blank_row is_blank_row blank-row blank-blank most_rows rs g.few in
      and_i (counts rs g.some) (and_i (le-leb (length rs) most_rows g.few) (and_i (eq-eqb (length (pad most_rows blank_row rs)) most_rows a.0)
      (and_i (subst (λ l. all valid_row l ≡ true) (sym a.1) g.valid) (and_i (subst (λ l. new_runways [] l ≡ true) (sym a.1) g.other) a.2))))

module _ (r : Rows) (valid : valid_rows r ≡ true) where
  whole-rows : (length (rows_of r) ≡ r.count) × (pad most_rows blank_row (rows_of r) ≡ r.rows)
  unfolding valid_rows
  whole-rows =
      let h = valid in
      let k = and-2 _ _ (and-2 _ _ h) in
      array_back blank_row is_blank_row blank-row blank-blank most_rows r.count r.rows (leb-true r.count most_rows (and-1 _ _ (and-2 _ _ h)))
      (eqb-true (length r.rows) most_rows (and-1 _ _ k)) (and-2 _ _ (and-2 _ _ (and-2 _ _ k)))

  pub rows_made : make_rows (rows_of r) ≡ r
  rows_made = let w = whole-rows in λ i. record { count = w.0 i; rows = w.1 i }

  pub rows-good : GoodRows (rows_of r)
  unfolding valid_rows
  rows-good =
      let h = valid in
      let k = and-2 _ _ (and-2 _ _ (and-2 _ _ h)) in
      record {
        valid = and-1 _ _ k;
        other = and-1 _ _ (and-2 _ _ k);
        few = subst (λ c. c ≤ most_rows) (sym whole-rows.0) (leb-true r.count most_rows (and-1 _ _ (and-2 _ _ h)));
        some = filled (rows_of r) r.count whole-rows.0 (and-1 _ _ h);
      }

-- the latest time of valid rows is real
latest-one : (t s : ℕ) → real_time t ≡ true → real_time s ≡ true → real_time (latest_of t s) ≡ true
unfolding latest_of
latest-one t s h k = go (later s t)
  where
    go : (b : Bool) → real_time (cond b s t) ≡ true
    go true = k
    go false = h

latest-from : (t : ℕ) (rs : List Row) → real_time t ≡ true → all valid_row rs ≡ true → real_time (latest_from t rs) ≡ true
unfolding latest_from
latest-from t [] h v = h
latest-from t (r ∷ rs) h v = latest-from (latest_of t r.time) rs (latest-one t r.time h (row-real r (and-1 _ _ v))) (and-2 _ _ v)

pub latest-real : (rs : List Row) → GoodRows rs → real_time (latest rs) ≡ true
unfolding latest
latest-real [] g = true-false g.some
latest-real (r ∷ rs) g = latest-from r.time rs (row-real r (and-1 _ _ g.valid)) (and-2 _ _ g.valid)
