-- Laws of the loops over the rows, and of what the library answers of them.
use Rattle.std.proofs.Common.{ℕ, ◌+◌, ◌-◌, ◌<◌, ◌≤◌, ◌≡◌, refl, sym, ap, ◌∙◌, List, [], ◌∷◌, ◌++◌, map, fold, Bool, true, false, not, cond, length, take, drop, get_or, take_all, length-drop, drop_of_length-le, add-one, append-nil, arith}
use Rattle.std.specs.Prelude.{◌||◌}
use Rattle.std.specs.List.{list_any}
use Rattle.std.proofs.Math.Seq.{take-suc}
use mathlib.Core.List.{map-append}
use Rattle.text.specs.Choice.{◌and◌}
use Rattle.text.specs.Piece.{canonical}
use Rattle.text.specs.Lines.{under}
use Rattle.text.specs.Laws.Arrays.{next_place}
use Rattle.text.specs.Laws.Ended.{under-append}
use Rattle.row.specs.declared.Row.{Row}
use Rattle.rowtext.specs.Text.{row_pieces}
use Rattle.body.specs.Rows.{same_runway, is_among, new_runways, latest_of, latest_from, latest}

-- the rest of a list, as a slice shows it
pub rest_all : {A : Type 0} (i : ℕ) (l : List A) → take (length l - i) (drop i l) ≡ drop i l
rest_all i l = take_all (length l - i) (drop i l) (simp length-drop (omega arith))

-- a runway among those of the rows
among-list : (r : Row) (rows : List Row) → list_any (λ s. same_runway s r) rows ≡ is_among r rows
unfolding is_among
among-list r [] = refl
among-list r (s ∷ rows) = go (same_runway s r) (among-list r rows)
  where
    go : (b : Bool) {u v : Bool} → u ≡ v → (b || u) ≡ cond b true v
    go true e = refl
    go false e = e

pub among_answer : (r : Row) (rows : List Row) {b : Bool} → b ≡ list_any (λ s. same_runway s r) rows → b ≡ is_among r rows
among_answer r rows e = e ∙ among-list r rows

-- no runway twice, row by row
module _ (rows : List Row) (i : ℕ) (d : Row) (k : i < length rows) where
  new-next : new_runways (take i rows) (drop i rows) ≡ (not (is_among (get_or rows i d) (take i rows)) and new_runways (take (i + 1) rows) (drop (i + 1) rows))
  unfolding new_runways
  new-next =
      let e : take i rows ++ (get_or rows i d ∷ []) ≡ take (i + 1) rows = rw add-one (sym (take-suc rows i d k)) in
      rw (next_place d rows i k, e)

  pub new-hit : is_among (get_or rows i d) (take i rows) ≡ true → new_runways (take i rows) (drop i rows) ≡ false
  unfolding ◌and◌
  new-hit e = new-next ∙ rw e

  pub new-miss : is_among (get_or rows i d) (take i rows) ≡ false → new_runways (take i rows) (drop i rows) ≡ new_runways (take (i + 1) rows) (drop (i + 1) rows)
  unfolding ◌and◌
  new-miss e = new-next ∙ rw e

pub new_none : (rows seen : List Row) (i : ℕ) → length rows ≤ i → new_runways seen (drop i rows) ≡ true
unfolding new_runways
new_none rows seen i h = rw (drop_of_length-le rows h)

-- what the code finds at a place outside a list of rows
abbrev pub outside : Row
outside = record { time = 0; number = 0; side = 0; thirds = []; width = 0 }

-- the latest time
abbrev latest_fold : ℕ → List Row → ℕ
latest_fold = fold (λ t s. latest_of t s.time)

latest-fold : (t : ℕ) (rows : List Row) → latest_fold t rows ≡ latest_from t rows
unfolding latest_from
latest-fold t [] = refl
latest-fold t (r ∷ rows) = latest-fold (latest_of t r.time) rows

pub latest_none : {rows shown : List Row} → shown ≡ rows → length shown < 1 → 0 ≡ latest rows
unfolding latest
latest_none {shown = []} e h = ap latest e
latest_none {shown = r ∷ shown} e h = absurd (omega arith)

pub latest_some : {rows shown : List Row} → shown ≡ rows → 1 ≤ length shown → {t : ℕ}
    → t ≡ latest_fold (get_or shown 0 outside).time (take (length shown - 1) (drop 1 shown)) → t ≡ latest rows
unfolding latest
latest_some {shown = []} e h f = absurd (omega arith)
latest_some {shown = r ∷ shown} e h f = f ∙ ap (latest_fold r.time) (rest_all 1 (r ∷ shown)) ∙ latest-fold r.time shown ∙ ap latest e

-- the rows' lines, one more at a time
pub text-next : (rows : List Row) (i : ℕ) → i < length rows
    → under (map row_pieces (take (i + 1) rows)) ≡ under (map row_pieces (take i rows)) ++ (10 ∷ canonical (row_pieces (get_or rows i outside)))
unfolding under
text-next rows i h = rw (add-one, take-suc rows i outside h, map-append, under-append, append-nil)
