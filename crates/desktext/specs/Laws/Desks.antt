-- What a desk sees at its lines does not depend on the other's lines, nor on lines of no desk.
use Rattle.std.specs.Prelude.{ℕ, ◌≡◌, Bool, eqb, leb, length}
use Rattle.std.proofs.Math.Path.{refl}
use Rattle.std.proofs.Common.{sym, subst, ◌∙◌, ap, eqb-true}
use mathlib.Core.List.{List, [], ◌∷◌}
use Rattle.std.proofs.Math.Bool.{cond, true, false}
use Rattle.text.specs.Refusals.{no_row}
use Rattle.text.specs.Lines.{longest}
use Rattle.text.specs.Out.{Out, refuse, taken}
use Rattle.text.specs.Laws.Base.{true-false}
use Rattle.text.specs.Read.{Got, misfit, got}
use Rattle.row.specs.declared.Row.{Row}
use Rattle.rowtext.specs.Reading.{find_row}
use Rattle.board.specs.declared.Board.{Board}
use Rattle.board.specs.declared.Answer.{Answer}
use Rattle.board.specs.Board.{answer}
use Rattle.board.specs.Report.{report}
use Rattle.board.proofs.Laws.Rules.{reports-list}
use Rattle.board.specs.Laws.Alone.{Alike}
use Rattle.board.proofs.Laws.Alone.{refusal-alike, step-own, step_other}
use Rattle.desktext.specs.Line.{read_sender, report_read, report_started, report_line}
use Rattle.desktext.specs.Desk.{report_lines}
use Rattle.desktext.specs.Laws.Desk.{lines-tell, lines-report}
use Rattle.desktext.specs.Desks.{starts_by, lines_from, lines_answered}

-- two answers that a desk cannot tell apart
record SameAnswer (d : ℕ) (x y : Answer) : Type 0 where
  number : x.refusal ≡ y.refusal
  boards : Alike d x.board y.board

module _ {d : ℕ} {b c : Board} (s : Alike d b c) where
  no-row : (n : ℕ) → SameAnswer d (answer n b) (answer n c)
  no-row n = record { number = refl; boards = s }

  read-own : (o : Out Row) → SameAnswer d (report_read b d o) (report_read c d o)
  unfolding report
  read-own (refuse n left) = no-row n
  read-own (taken r) = record { number = refusal-alike s r; boards = step-own s r }

  read-other : (e : ℕ) → eqb e d ≡ false → (o : Out Row) → Alike d (report_read b e o).board c
  read-other e n (refuse k left) = s
  read-other e n (taken r) = step_other s r e n

  started-own : (g : Got ℕ) → starts_by d g ≡ true → SameAnswer d (report_started b g) (report_started c g)
  started-own misfit h = true-false (sym h)
  started-own (got e k) h = subst (λ x. SameAnswer d (report_read b x (find_row k)) (report_read c x (find_row k))) (sym (eqb-true e d h)) (read-own (find_row k))

  started-other : (g : Got ℕ) → starts_by d g ≡ false → Alike d (report_started b g).board c
  started-other misfit h = s
  started-other (got e k) h = read-other e h (find_row k)

  module _ (l : List ℕ) where
    line-own : starts_by d (read_sender l) ≡ true → SameAnswer d (report_line b l) (report_line c l)
    unfolding report_line
    line-own h = go (leb (length l) longest)
      where
        go : (t : Bool) → SameAnswer d (cond t (report_started b (read_sender l)) (answer no_row b)) (cond t (report_started c (read_sender l)) (answer no_row c))
        go true = started-own (read_sender l) h
        go false = no-row no_row

    line_other : starts_by d (read_sender l) ≡ false → Alike d (report_line b l).board c
    unfolding report_line
    line_other h = go (leb (length l) longest)
      where
        go : (t : Bool) → Alike d (cond t (report_started b (read_sender l)) (answer no_row b)).board c
        go true = started-other (read_sender l) h
        go false = s

module _ (d : ℕ) where
  pub lines-alone : (ls : List (List ℕ)) (b c : Board) → Alike d b c → lines_answered d b ls ≡ lines_answered d c (lines_from d ls)
  unfolding lines_answered lines_from
  lines-alone [] b c s = refl
  lines-alone (l ∷ ls) b c s = go (starts_by d (read_sender l)) refl (lines-alone ls)
    where
      go : (t : Bool) → starts_by d (read_sender l) ≡ t → ((p q : Board) → Alike d p q → lines_answered d p ls ≡ lines_answered d q (lines_from d ls))
          → cond t ((report_line b l).refusal ∷ lines_answered d (report_line b l).board ls) (lines_answered d (report_line b l).board ls)
          ≡ lines_answered d c (cond t (l ∷ lines_from d ls) (lines_from d ls))
      go true e ih = let x = line-own s l e in rw e (λ t. x.number t ∷ ih (report_line b l).board (report_line c l).board x.boards t)
      go false e ih = ih (report_line b l).board c (line_other s l e)

  pub board-alone : (ls : List (List ℕ)) (b c : Board) → Alike d b c → Alike d (report_lines b ls) (report_lines c (lines_from d ls))
  unfolding report_lines lines_from
  board-alone [] b c s = s
  board-alone (l ∷ ls) b c s = go (starts_by d (read_sender l)) refl (board-alone ls)
    where
      go : (t : Bool) → starts_by d (read_sender l) ≡ t → ((p q : Board) → Alike d p q → Alike d (report_lines p ls) (report_lines q (lines_from d ls)))
          → Alike d (report_lines (report_line b l).board ls) (report_lines c (cond t (l ∷ lines_from d ls) (lines_from d ls)))
      go true e ih = ih (report_line b l).board (report_line c l).board (line-own s l e).boards
      go false e ih = ih (report_line b l).board c (line_other s l e)

-- no line alters the owners
pub owners-stay : (ls : List (List ℕ)) (b : Board) → (report_lines b ls).owners ≡ b.owners
owners-stay ls b = ap (λ c. c.owners) (lines-report b (lines-tell ls).1) ∙ (reports-list b (lines-tell ls).0).owners
