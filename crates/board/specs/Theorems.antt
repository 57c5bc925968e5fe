-- What opening answers, that a refused report changes nothing, and that the desk's step leaves no choice. Demand 3 itself is proofs/Theorems.
use Rattle.std.specs.Prelude.{ℕ, ◌≡◌, cond, Bool, true, false}
use Rattle.std.proofs.Math.Path.{refl}
use Rattle.std.proofs.Common.{sym, ◌∙◌, eqb-true}
use mathlib.Core.List.{List}
use Rattle.row.specs.declared.Row.{Row}
use Rattle.board.specs.declared.Runway.{Runway}
use Rattle.board.specs.declared.Board.{Board}
use Rattle.board.specs.Board.{valid_opening, fresh, blank_board, answer, opening}
use Rattle.board.specs.Report.{place_for, refusal, stored, report}
use Rattle.board.specs.Laws.Rules.{takes}

-- opening takes a list and its owners exactly if they are valid
pub opens : (a : List ℕ) (n : ℕ) (ws : List Runway) (os : List ℕ) → valid_opening a n ws os ≡ true → opening a n ws os ≡ answer 0 (fresh a n ws os)
unfolding opening
opens a n ws os h = rw h

pub refuses : (a : List ℕ) (n : ℕ) (ws : List Runway) (os : List ℕ) → valid_opening a n ws os ≡ false → opening a n ws os ≡ answer 17 blank_board
unfolding opening
refuses a n ws os h = rw h

-- "A notice carries its board": the rows that a board shows, given in any order to a fresh board with the same aerodrome, runways and owners, each by its own
-- desk, make that board anew, stored time included
abbrev pub afresh : Board → Board
afresh b = fresh b.aerodrome b.count b.runways b.owners

-- a refused report leaves the board as it was, the stored time included
pub refused-stays : (b : Board) (d : ℕ) (r : Row) → ((report b d r).refusal ≡ 0 → ⊥) → (report b d r).board ≡ b
unfolding report
refused-stays b d r h = go (takes b d r) refl
  where
    go : (t : Bool) → takes b d r ≡ t → cond t (stored b (place_for b r) r) b ≡ b
    go false e = refl
    go true e = absurd (h (eqb-true (refusal b d r) 0 e))

-- each promise leaves no choice: those of opening and reporting are equations, and of the desk's step
pub stepped-one : (b : Board) (d : ℕ) (r : Row) {c e : Board} {n m : ℕ} → (c ≡ (report b d r).board) × (n ≡ (report b d r).refusal)
    → (e ≡ (report b d r).board) × (m ≡ (report b d r).refusal) → (c ≡ e) × (n ≡ m)
stepped-one b d r p q = (p.0 ∙ sym q.0, p.1 ∙ sym q.1)
