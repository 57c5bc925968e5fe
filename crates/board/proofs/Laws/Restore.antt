-- The rows that a board shows make that board anew.
use Rattle.std.specs.Prelude.{ℕ, zero, suc, ◌<◌, ◌≡◌, refl, cond, Bool, true, false, get_or}
use Rattle.std.proofs.Common.{sym, subst, ◌∙◌, ap}
use mathlib.Core.List.Memᴰ
use mathlib.Core.List.{List, [], ◌∷◌, map, Memᴰ}
use mathlib.Core.List.Permᴰ
use mathlib.Core.List.{Permᴰ}
use Rattle.text.specs.Laws.Base.{true-false}
use Rattle.row.specs.declared.Row.{Row}
use Rattle.row.specs.Row.{blank_row, is_blank_row}
use Rattle.board.specs.declared.Board.{Board}
use Rattle.board.specs.declared.Sent.{Sent}
use Rattle.board.specs.Board.{reported, valid_board}
use Rattle.board.specs.Report.{row_at, owner_at}
use Rattle.board.specs.Runs.{◌sends◌, by_owner}
use Rattle.board.specs.Shows.{Shown, nothing, row, runway_at, shown_at, ◌IsIn◌, Shows, shows-none, shows-row}
use Rattle.board.specs.Laws.Rows.{blank-blank, valid-not-blank}
use Rattle.board.specs.Laws.Shows.{last-in, permuted}
use Rattle.board.specs.Laws.Restore.{own_row, here, only_one}

in-reported : (rs : List Row) (i : ℕ) → is_blank_row (get_or rs i blank_row) ≡ false → Memᴰ (get_or rs i blank_row) (reported rs)
unfolding reported
in-reported [] i e = true-false (sym blank-blank ∙ e)
in-reported (r ∷ rs) zero e = rw e (Memᴰ.head refl)
in-reported (r ∷ rs) (suc i) e = go (is_blank_row r) (in-reported rs i e)
  where
    go : (t : Bool) → Memᴰ (get_or rs i blank_row) (reported rs) → Memᴰ (get_or rs i blank_row) (cond t (reported rs) (r ∷ reported rs))
    go true m = m
    go false m = Memᴰ.tail m

-- the rows shown in any order, each by its own desk
module _ (b : Board) (v : valid_board b ≡ true) (rs : List Row) (moved : Permᴰ rs (reported b.rows)) (i : ℕ) (l : i < b.count) where
  abbrev sent : List Sent
  sent = map (by_owner b) rs

  was-shown : (x : Sent) → x IsIn sent → Memᴰ x.row (reported b.rows)
  was-shown x m =
      let t = Memᴰ.of_map (by_owner b) rs m in
      permuted moved x.row (subst (λ r. Memᴰ r rs) (ap (λ y. y.row) t.2) t.1)

  is-sent : is_blank_row (row_at b i) ≡ false → (owner_at b i sends row_at b i) IsIn sent
  is-sent e =
      let f = own_row b v i l e in
      let m = permuted (Permᴰ.symm moved) (row_at b i) (in-reported b.rows i e) in
      subst (λ j. (owner_at b j sends row_at b i) IsIn sent) (here b v (row_at b i) i l f.named) (Memᴰ.map (by_owner b) m)

  -- what they make a place show is what it showed
  pub restored : {s : Shown} → Shows (runway_at b i) (owner_at b i) sent s → s ≡ shown_at b i
  restored (shows-none h) = go (is_blank_row (row_at b i)) refl
    where
      go : (t : Bool) → is_blank_row (row_at b i) ≡ t → nothing ≡ cond t nothing (row (row_at b i))
      go true e = refl
      go false e = absurd (h (owner_at b i sends row_at b i) (is-sent e) (own_row b v i l e))
  restored (shows-row {x = x} h) =
      let e = only_one b v i l x.row (was-shown x (last-in (runway_at b i) (owner_at b i) h)) h.for.named in
      rw e (rw (valid-not-blank x.row h.for.valid))
