-- What demand 3 rests on: what a place shows after a list of reports, and that a board is told by what its places show.
use Rattle.std.specs.Prelude.{ℕ, zero, suc, ◌<◌, ◌≤◌, ◌≡◌, refl, List, [], cond, Bool, true, false, get_or, replicate}
use Rattle.std.proofs.Common.{sym, subst, ◌∙◌, ap, ext_get_or, arith}
use Rattle.std.proofs.Math.Decide.{dec_lt}
use Rattle.row.specs.declared.Row.{Row}
use Rattle.row.specs.Row.{blank_row, is_blank_row}
use Rattle.row.specs.Laws.Row.{blank-row}
use Rattle.board.specs.declared.Runway.{Runway}
use Rattle.board.specs.declared.Board.{Board}
use Rattle.board.specs.Board.{places, runways_of, latest_shown, valid_opening, valid_board, no_rows, fresh, answer, refused_opening, opening}
use Rattle.board.specs.Report.{row_at}
use Rattle.board.specs.Shows.{nothing, row, shown, shown_at, Shows}
use Rattle.board.specs.Laws.Rows.{blank-blank}
use Rattle.board.specs.Laws.Shows.{empty}
use Rattle.board.specs.Laws.Rules.{fresh-valid, SameList, rules, used, fit-past}

-- a fresh board shows nothing
blank-at : (n i : ℕ) → get_or (replicate n blank_row) i blank_row ≡ blank_row
blank-at zero i = refl
blank-at (suc n) zero = refl
blank-at (suc n) (suc i) = blank-at n i

pub nothing-at : (w : Runway) (o i : ℕ) → Shows w o [] (shown (get_or no_rows i blank_row))
nothing-at w o i = subst (λ r. Shows w o [] (shown r)) (sym (blank-at places i)) (rw blank-blank (empty w o))

-- a place is told by what it shows
same_place : (p q : Row) → shown p ≡ shown q → p ≡ q
same_place p q = go (is_blank_row p) refl (is_blank_row q) refl
  where
    go : (x : Bool) → is_blank_row p ≡ x → (y : Bool) → is_blank_row q ≡ y → cond x nothing (row p) ≡ cond y nothing (row q) → p ≡ q
    go true e true f z = blank-row p e ∙ sym (blank-row q f)
    go true e false f z = let o : ◌≡◌ {A = ℕ} 0 1 = cc in absurd (omega arith)
    go false e true f z = let o : ◌≡◌ {A = ℕ} 0 1 = cc in absurd (omega arith)
    go false e false f z = cc

-- two boards of one list that show the same are the same
pub same-board : (c e : Board) → valid_board c ≡ true → valid_board e ≡ true → SameList e c → ((i : ℕ) → i < e.count → shown_at c i ≡ shown_at e i) → c ≡ e
same-board c e v w s h =
    let r = ext_get_or blank_row c.rows e.rows ((rules c v).high ∙ sym (rules e w).high) (λ i l. place i (dec_lt i e.count)) in
    let t = (rules c v).latest ∙ (ap latest_shown r ∙ sym (rules e w).latest) in
    λ i. record { aerodrome = s.aerodrome i; count = s.count i; runways = s.runways i; owners = s.owners i; latest = t i; rows = r i }
  where
    past : (b : Board) → valid_board b ≡ true → (i : ℕ) → b.count ≤ i → row_at b i ≡ blank_row
    past b g i l =
        let k = rules b g in
        let u = used b k in
        blank-row (row_at b i) (fit-past (runways_of b) b.rows i k.fit (omega arith))

    place : (i : ℕ) → Dec (i < e.count) → row_at c i ≡ row_at e i
    place i (yes l) = same_place (row_at c i) (row_at e i) (h i l)
    place i (no l) = let n = s.count in past c v i (omega arith) ∙ sym (past e w i (omega arith))

-- what an opening that is taken gives
pub opened-fresh : (a : List ℕ) (n : ℕ) (ws : List Runway) (os : List ℕ) (b : Board) → opening a n ws os ≡ answer 0 b
    → (b ≡ fresh a n ws os) × (valid_board b ≡ true)
unfolding opening
opened-fresh a n ws os b taken = go (valid_opening a n ws os) refl taken
  where
    go : (t : Bool) → valid_opening a n ws os ≡ t → cond t (answer 0 (fresh a n ws os)) refused_opening ≡ answer 0 b
        → (b ≡ fresh a n ws os) × (valid_board b ≡ true)
    go true h f = let i = sym (ap (λ x. x.board) f) in (i, subst (λ c. valid_board c ≡ true) (sym i) (fresh-valid a n ws os h))
    go false h f = let z = ap (λ x. x.refusal) f in absurd (omega arith)
