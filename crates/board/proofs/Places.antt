-- One law for each case of a step of the loops over places.
use Rattle.std.specs.Prelude.{ℕ, suc, ◌+◌, ◌-◌, ◌<◌, ◌≤◌, ◌≡◌, List, [], ◌∷◌, cond, ◌&&◌, Bool, true, false, Option, Some, None, MatchOption, ltb, length, take, drop, get_or}
use Rattle.std.proofs.lemmas.List.Recursion.{is_position_or_len}
use Rattle.std.proofs.Common.{refl, sym, ◌∙◌, ap, drop_of_length-le, ltb-true, ltb-false, eq-eqb, length-drop, take_all, one-add, arith}
use Rattle.std.specs.List.{list_all, zip, position_or_len}
use Rattle.text.specs.Choice.{◌and◌, all}
use Rattle.text.specs.Laws.Arrays.{next_place}
use Rattle.row.specs.declared.Row.{Row}
use Rattle.row.specs.Row.{blank_row, is_blank_row}
use Rattle.board.specs.declared.Runway.{Runway}
use Rattle.board.specs.declared.Board.{Board}
use Rattle.board.specs.Board.{blank_runway, rises, rising, names, fits_place, fit_places}
use Rattle.board.specs.Report.{place_of, place_for, refusal, newest}
use Rattle.board.specs.Laws.Rules.{get_d_any, rules}
use Rattle.board.proofs.Laws.Rules.{took}
use Rattle.board.specs.Laws.Latest.{Goods, Upto, upto_next}

-- the runways ws from the place i on, behind v
module _ (ws : List Runway) (i : ℕ) (v : Runway) where
  abbrev here : Runway
  here = get_or ws i blank_runway

  pub rise_end : length ws ≤ i → true ≡ rising v (drop i ws)
  unfolding rising
  rise_end h = rw (drop_of_length-le ws h)

  module _ (h : i < length ws) where
    pub rise_on : rises v here ≡ true → rising v (drop i ws) ≡ rising here (drop (i + 1) ws)
    unfolding rising ◌and◌
    rise_on e = rw (next_place blank_runway ws i h, e)

    pub rise_off : rises v here ≡ false → false ≡ rising v (drop i ws)
    unfolding rising ◌and◌
    rise_off e = rw (next_place blank_runway ws i h, e)

-- the first runway that the row names
pub place-found : (r : Row) (ws : List Runway) {o : Option ℕ}
    → o ≡ cond (ltb (position_or_len (names r) ws) (length ws)) (Some (position_or_len (names r) ws)) None
    → MatchOption o (place_of r ws ≡ length ws) (λ i. (i ≡ place_of r ws) × (i < length ws))
unfolding place_of
place-found r ws e = rw (e, ← first) (go (ltb (place_of r ws) (length ws)) refl)
  where
    -- it is where the library looks for it
    first : place_of r ws ≡ position_or_len (names r) ws
    first = is_position_or_len (place_of r) (names r) refl (λ w k. rw one-add) ws

    within : (ws : List Runway) → place_of r ws ≤ length ws
    within [] = omega arith
    within (w ∷ ws) = go (names r w) (within ws)
      where
        go : (t : Bool) → place_of r ws ≤ length ws → cond t 0 (suc (place_of r ws)) ≤ suc (length ws)
        go true h = omega arith
        go false h = omega arith

    go : (t : Bool) → ltb (place_of r ws) (length ws) ≡ t
        → MatchOption (cond t (Some (place_of r ws)) None) (place_of r ws ≡ length ws) (λ i. (i ≡ place_of r ws) × (i < length ws))
    go true h = (refl, ltb-true _ _ h)
    go false h = let k = ltb-false _ _ h in let w = within ws in omega arith

-- rows in their places, and zeros behind them
pub fit_split : (ws : List Runway) (rs : List Row) → fit_places ws rs ≡ (list_all (λ p. fits_place p.0 p.1) (zip ws rs) and all is_blank_row (drop (length ws) rs))
unfolding fit_places ◌and◌
fit_split [] rs = refl
fit_split (w ∷ ws) [] = refl
fit_split (w ∷ ws) (r ∷ rs) = go (fits_place w r) _ _ (fit_split ws rs)
  where
    go : (t a b : Bool) {c : Bool} → c ≡ (a and b) → (t and c) ≡ ((t && a) and b)
    go true a b e = e
    go false a b e = refl

-- of an array of n places, those from i on
pub rest_all : {A : Type 0} (n i : ℕ) (l : List A) → length l ≡ n → take (n - i) (drop i l) ≡ drop i l
rest_all n i l e = take_all (n - i) (drop i l) (simp length-drop (omega arith))

-- what a place holds does not depend on what stands for a row outside
pub row-there : (d : Row) (rs : List Row) (i : ℕ) → i < length rs → get_or rs i d ≡ get_or rs i blank_row
row-there d rs i h = get_d_any d blank_row rs i h

-- the latest time of the places looked at is t before the place i
module _ (rs : List Row) (d : Row) (i t : ℕ) (g : Goods rs) (h : i < length rs) (u : Upto rs i t) where
  same : get_or rs i d ≡ get_or rs i blank_row
  same = row-there d rs i h

  pub time-stays : is_blank_row (get_or rs i d) ≡ true → Upto rs (i + 1) t
  time-stays e = rw (ap is_blank_row (sym same) ∙ e) at (upto_next rs i t g h u)

  pub time-next : (v : ℕ) → is_blank_row (get_or rs i d) ≡ false → v ≡ newest t (get_or rs i d).time → Upto rs (i + 1) v
  time-next v e q = rw (q, same) (rw (ap is_blank_row (sym same) ∙ e) at (upto_next rs i t g h u))

-- the place that a taken report is stored in
pub took-within : (b : Board) (d : ℕ) (r : Row) (i : ℕ) → (refusal b d r ≡ 0) × (i ≡ place_for b r) → i < 8
took-within b d r i e =
    let t = took b d r (eq-eqb (refusal b d r) 0 e.0) in
    let f = (rules b t.good).few in
    let p = t.place in
    omega arith
