-- The rules are kept: opening makes them hold, no report breaks them or alters the aerodrome, the list and its owners.
use Rattle.std.specs.Prelude.{ℕ, zero, suc, ◌<◌, ◌≤◌, ◌≡◌, refl, List, [], ◌∷◌, cond, Bool, true, false, eqb, ltb, length, take, get_or, replicate}
use Rattle.std.proofs.Common.{sym, subst, ◌∙◌, ap, length-take, get_or-take, arith}
use borrow.Author.Tests.{eqb-true, eq-eqb, ne_eqb, leb-true, ltb-true, lt-ltb, le-ltb}
use Rattle.std.proofs.Math.Decide.{dec_lt}
use Rattle.text.specs.Choice.{◌and◌, all}
use Rattle.text.specs.Laws.Base.{and-1, and-2, and_i}
use Rattle.text.specs.Laws.Arrays.{all_in}
use Rattle.row.specs.declared.Row.{Row}
use Rattle.row.specs.Row.{valid_row, blank_row, is_blank_row}
use Rattle.text.specs.Refusals.{invalid_row, wrong_board, not_on_board, no_desk}
use Rattle.board.specs.declared.Runway.{Runway}
use Rattle.board.specs.declared.Board.{Board}
use Rattle.board.specs.Board.{blank_runway, comes_before, rises, rising, valid_list, names, fits_place, fit_places, valid_places, runways_of, no_rows}
use Rattle.board.specs.Board.{is_desk, valid_owners, latest_shown, valid_opening, valid_board, fresh}
use Rattle.board.specs.Report.{place_of, place_for, row_at, owner_at, is_news, refusal, stored, report}
use Rattle.board.specs.Laws.Rows.{blank-blank, valid-not-blank}
use Rattle.board.specs.Laws.Latest.{Good, blank, valid, Goods, none-latest}

-- an element within an array does not depend on what stands for one outside
pub get_d_any : {A : Type 0} (d e : A) (l : List A) (i : ℕ) → i < length l → get_or l i d ≡ get_or l i e
get_d_any d e [] i h = absurd (omega arith)
get_d_any d e (a ∷ l) zero h = refl
get_d_any d e (a ∷ l) (suc i) h = get_d_any d e l i (omega arith)

pub get_d_past : {A : Type 0} (d : A) (l : List A) (i : ℕ) → length l ≤ i → get_or l i d ≡ d
get_d_past d [] i h = refl
get_d_past d (a ∷ l) zero h = absurd (omega arith)
get_d_past d (a ∷ l) (suc i) h = get_d_past d l i (omega arith)

fits-blank : (w : Runway) → fits_place w blank_row ≡ true
unfolding fits_place
fits-blank w = rw blank-blank

pub fits-valid : (w : Runway) (r : Row) → valid_row r ≡ true → names r w ≡ true → fits_place w r ≡ true
unfolding fits_place
fits-valid w r v n = rw (valid-not-blank r v) (and_i v n)

-- rows in their places
fit-zeros : (ws : List Runway) (n : ℕ) → fit_places ws (replicate n blank_row) ≡ true
unfolding fit_places
fit-zeros [] zero = refl
fit-zeros [] (suc n) = and_i blank-blank (fit-zeros [] n)
fit-zeros (w ∷ ws) zero = refl
fit-zeros (w ∷ ws) (suc n) = and_i (fits-blank w) (fit-zeros ws n)

pub fit_at : (d : Runway) (ws : List Runway) (rs : List Row) (i : ℕ) → fit_places ws rs ≡ true → i < length ws
    → fits_place (get_or ws i d) (get_or rs i blank_row) ≡ true
unfolding fit_places
fit_at d [] rs i h l = absurd (omega arith)
fit_at d (w ∷ ws) [] i h l = fits-blank (get_or (w ∷ ws) i d)
fit_at d (w ∷ ws) (s ∷ rs) zero h l = and-1 _ _ h
fit_at d (w ∷ ws) (s ∷ rs) (suc i) h l = fit_at d ws rs i (and-2 _ _ h) (omega arith)

pub fit-past : (ws : List Runway) (rs : List Row) (i : ℕ) → fit_places ws rs ≡ true → length ws ≤ i → is_blank_row (get_or rs i blank_row) ≡ true
unfolding fit_places
fit-past ws [] i h l = blank-blank
fit-past [] (r ∷ rs) zero h l = and-1 _ _ h
fit-past [] (r ∷ rs) (suc i) h l = fit-past [] rs i (and-2 _ _ h) (omega arith)
fit-past (w ∷ ws) (r ∷ rs) zero h l = absurd (omega arith)
fit-past (w ∷ ws) (r ∷ rs) (suc i) h l = fit-past ws rs i (and-2 _ _ h) (omega arith)

-- the place of a row's runway
pub place-names : (d : Runway) (r : Row) (ws : List Runway) → place_of r ws < length ws → names r (get_or ws (place_of r ws) d) ≡ true
unfolding place_of
place-names d r [] h = absurd (omega arith)
place-names d r (w ∷ ws) h = go (names r w) refl (place-names d r ws) h
  where
    go : (t : Bool) → names r w ≡ t → (place_of r ws < length ws → names r (get_or ws (place_of r ws) d) ≡ true)
        → cond t 0 (suc (place_of r ws)) < suc (length ws) → names r (get_or (w ∷ ws) (cond t 0 (suc (place_of r ws))) d) ≡ true
    go true e ih h = e
    go false e ih h = ih (omega arith)

-- a rising list has no runway twice
pub before-trans : (a b c : Runway) → comes_before a b ≡ true → comes_before b c ≡ true → comes_before a c ≡ true
unfolding comes_before
before-trans a b c = go (eqb a.number b.number) refl (eqb b.number c.number) refl
  where
    less : a.number < c.number → cond (eqb a.number c.number) (ltb a.side c.side) (ltb a.number c.number) ≡ true
    less l = rw (ne_eqb a.number c.number (omega arith)) (lt-ltb a.number c.number l)

    go : (x : Bool) → eqb a.number b.number ≡ x → (y : Bool) → eqb b.number c.number ≡ y
        → cond x (ltb a.side b.side) (ltb a.number b.number) ≡ true → cond y (ltb b.side c.side) (ltb b.number c.number) ≡ true
        → cond (eqb a.number c.number) (ltb a.side c.side) (ltb a.number c.number) ≡ true
    go true e true f p q =
        let i = eqb-true a.number b.number e in
        let j = eqb-true b.number c.number f in
        let k = ltb-true a.side b.side p in
        let l = ltb-true b.side c.side q in
        rw (eq-eqb a.number c.number (omega arith)) (lt-ltb a.side c.side (omega arith))
    go true e false f p q = let i = eqb-true a.number b.number e in let l = ltb-true b.number c.number q in less (omega arith)
    go false e true f p q = let i = eqb-true b.number c.number f in let l = ltb-true a.number b.number p in less (omega arith)
    go false e false f p q = let k = ltb-true a.number b.number p in let l = ltb-true b.number c.number q in less (omega arith)

pub before-apart : (r : Row) (v w : Runway) → comes_before v w ≡ true → names r w ≡ true → names r v ≡ false
unfolding comes_before names
before-apart r v w b n = go (names r v) refl
  where
    go : (t : Bool) → names r v ≡ t → t ≡ false
    go false e = refl
    go true e =
        let i = eqb-true r.number v.number (and-1 _ _ e) in
        let j = eqb-true r.side v.side (and-2 _ _ e) in
        let k = eqb-true r.number w.number (and-1 _ _ n) in
        let l = eqb-true r.side w.side (and-2 _ _ n) in
        let z = ltb-true v.side w.side (rw (eq-eqb v.number w.number (omega arith)) at b) in
        absurd (omega arith)

pub rising-over : (d v : Runway) (ws : List Runway) (i : ℕ) → rising v ws ≡ true → i < length ws → comes_before v (get_or ws i d) ≡ true
unfolding rising rises
rising-over d v [] i h l = absurd (omega arith)
rising-over d v (w ∷ ws) zero h l = and-2 _ _ (and-1 _ _ h)
rising-over d v (w ∷ ws) (suc i) h l = before-trans v w (get_or ws i d) (and-2 _ _ (and-1 _ _ h)) (rising-over d w ws i (and-2 _ _ h) (omega arith))

pub place_is : (d v : Runway) (r : Row) (ws : List Runway) (i : ℕ) → rising v ws ≡ true → i < length ws → names r (get_or ws i d) ≡ true → place_of r ws ≡ i
unfolding rising place_of
place_is d v r [] i h l n = absurd (omega arith)
place_is d v r (w ∷ ws) zero h l n = rw n
place_is d v r (w ∷ ws) (suc i) h l n =
    let k = and-2 _ _ h in
    rw (before-apart r w (get_or ws i d) (rising-over d w ws i k (omega arith)) n) (ap suc (place_is d w r ws i k (omega arith) n))

-- a list has eight runways at most
pub list-few : (a : List ℕ) (n : ℕ) (ws : List Runway) → valid_list a n ws ≡ true → n ≤ 8
unfolding valid_list
list-few a n ws h = leb-true n 8 (and-1 _ _ (and-2 _ _ (and-2 _ _ h)))

pub opening-few : (a : List ℕ) (n : ℕ) (ws : List Runway) (os : List ℕ) → valid_opening a n ws os ≡ true → n ≤ 8
unfolding valid_opening
opening-few a n ws os h = list-few a n ws (and-1 _ _ h)

-- the rules, one by one
pub record Rules (b : Board) : Type 0 where
  pub list : valid_list b.aerodrome b.count b.runways ≡ true
  pub owned : valid_owners b.count b.owners ≡ true
  pub some : 1 ≤ b.count
  pub few : b.count ≤ 8
  pub wide : length b.runways ≡ 8
  pub long : length b.owners ≡ 8
  pub rise : rising blank_runway (runways_of b) ≡ true
  pub desks : all is_desk (take b.count b.owners) ≡ true
  pub high : length b.rows ≡ 8
  pub fit : fit_places (runways_of b) b.rows ≡ true
  pub latest : b.latest ≡ latest_shown b.rows

pub rules : (b : Board) → valid_board b ≡ true → Rules b
unfolding valid_board valid_opening valid_list valid_owners valid_places
rules b v =
    let h = and-1 _ _ (and-1 _ _ v) in
    let h₁ = and-2 _ _ h in
    let h₂ = and-2 _ _ h₁ in
    let h₃ = and-2 _ _ h₂ in
    let o = and-2 _ _ (and-1 _ _ v) in
    let k = and-1 _ _ (and-2 _ _ v) in
    record {
      list = h;
      owned = o;
      some = leb-true 1 b.count (and-1 _ _ h₁);
      few = leb-true b.count 8 (and-1 _ _ h₂);
      wide = eqb-true (length b.runways) 8 (and-1 _ _ h₃);
      long = eqb-true (length b.owners) 8 (and-1 _ _ o);
      rise = and-1 _ _ (and-2 _ _ h₃);
      desks = and-1 _ _ (and-2 _ _ o);
      high = eqb-true (length b.rows) 8 (and-1 _ _ k);
      fit = and-2 _ _ k;
      latest = eqb-true b.latest (latest_shown b.rows) (and-2 _ _ (and-2 _ _ v));
    }

pub used : (b : Board) → Rules b → length (runways_of b) ≡ b.count
used b k = let f = k.few in let w = k.wide in rw length-take (omega arith)

-- the places in use are owned by desks
pub owner-desk : (b : Board) → Rules b → (i : ℕ) → i < b.count → is_desk (owner_at b i) ≡ true
owner-desk b k i l =
    let f = k.few in
    let g = k.long in
    subst (λ o. is_desk o ≡ true) (get_or-take b.count b.owners i 0 l)
    (all_in is_desk 0 (take b.count b.owners) i k.desks (rw length-take (omega arith)))

-- rows in their places are blank or valid
fits-good : (w : Runway) (r : Row) → fits_place w r ≡ true → Good r
unfolding fits_place
fits-good w r = go (is_blank_row r) refl
  where
    go : (t : Bool) → is_blank_row r ≡ t → cond t true (valid_row r and names r w) ≡ true → Good r
    go true e f = blank e
    go false e f = valid (and-1 _ _ f)

pub goods : (ws : List Runway) (rs : List Row) → fit_places ws rs ≡ true → Goods rs
goods ws rs h i = go (dec_lt i (length ws))
  where
    go : Dec (i < length ws) → Good (get_or rs i blank_row)
    go (yes l) = fits-good (get_or ws i blank_runway) (get_or rs i blank_row) (fit_at blank_runway ws rs i h l)
    go (no l) = blank (fit-past ws rs i h (omega arith))

pub places-good : (n : ℕ) (ws : List Runway) (rs : List Row) → valid_places n ws rs ≡ true → Goods rs
unfolding valid_places
places-good n ws rs h = goods (take n ws) rs (and-2 _ _ h)

-- opening: the rules hold of what it takes
pub fresh-valid : (a : List ℕ) (n : ℕ) (ws : List Runway) (os : List ℕ) → valid_opening a n ws os ≡ true → valid_board (fresh a n ws os) ≡ true
unfolding valid_board valid_places
fresh-valid a n ws os h = and_i h (and_i (and_i refl (fit-zeros (take n ws) 8)) (eq-eqb 0 (latest_shown no_rows) (sym none-latest)))

-- each answer to a report, in the order of the tests
module _ (b : Board) (d : ℕ) (r : Row) where
  pub refused-17 : valid_board b ≡ false → refusal b d r ≡ wrong_board
  unfolding refusal
  refused-17 h = rw h

  module _ (v : valid_board b ≡ true) where
    pub refused-23 : is_desk d ≡ false → refusal b d r ≡ no_desk
    unfolding refusal
    refused-23 h = rw (v, h)

    module _ (k : is_desk d ≡ true) where
      pub refused-19 : valid_row r ≡ false → refusal b d r ≡ invalid_row
      unfolding refusal
      refused-19 h = rw (v, k, h)

      module _ (g : valid_row r ≡ true) where
        pub refused-18 : b.count ≤ place_for b r → refusal b d r ≡ not_on_board
        unfolding refusal
        refused-18 h = rw (v, k, g, le-ltb (place_for b r) b.count h)

-- a report is taken exactly if no test fails
abbrev pub takes : Board → ℕ → Row → Bool
takes b d r = eqb (refusal b d r) 0

-- what a taken report shows
pub record Took (b : Board) (d : ℕ) (r : Row) : Type 0 where
  pub good : valid_board b ≡ true
  pub valid : valid_row r ≡ true
  pub place : place_for b r < b.count
  pub owner : d ≡ owner_at b (place_for b r)
  pub news : is_news r (row_at b (place_for b r)) ≡ true

-- it names the runway of its place
pub took-names : (b : Board) (d : ℕ) (r : Row) → Took b d r → names r (get_or (runways_of b) (place_for b r) blank_runway) ≡ true
took-names b d r t =
    let u = used b (rules b t.good) in
    let p = t.place in
    place-names blank_runway r (runways_of b) (omega arith)

-- the board after a report: one place stored, or as before
pub report-board : (b : Board) (d : ℕ) (r : Row) → (report b d r).board ≡ cond (takes b d r) (stored b (place_for b r) r) b
unfolding report
report-board b d r = refl

-- the aerodrome, the list and the owners stay
pub record SameList (b c : Board) : Type 0 where
  pub aerodrome : c.aerodrome ≡ b.aerodrome
  pub count : c.count ≡ b.count
  pub runways : c.runways ≡ b.runways
  pub owners : c.owners ≡ b.owners

pub same-trans : {b c e : Board} → SameList b c → SameList c e → SameList b e
same-trans x y = record {
  aerodrome = y.aerodrome ∙ x.aerodrome;
  count = y.count ∙ x.count;
  runways = y.runways ∙ x.runways;
  owners = y.owners ∙ x.owners;
}

pub same-sym : {b c : Board} → SameList b c → SameList c b
same-sym x = record { aerodrome = sym x.aerodrome; count = sym x.count; runways = sym x.runways; owners = sym x.owners }
