-- What demand 3 rests on: what a place shows after a list of reports, and that a board is told by what its places show.
use Rattle.std.specs.Prelude.{ℕ, ◌<◌, ◌≡◌, List, [], ◌∷◌, ◌++◌, true, get_or}
use Rattle.std.proofs.Common.{sym, subst, ◌∙◌, ap, append_assoc, append-nil, arith}
use Rattle.board.specs.declared.Runway.{Runway}
use Rattle.board.specs.declared.Board.{Board}
use Rattle.board.specs.Board.{blank_runway, valid_board}
use Rattle.board.specs.Report.{owner_at, report}
use Rattle.board.specs.declared.Sent.{Sent}
use Rattle.board.specs.Runs.{reports}
use Rattle.board.specs.Shows.{runway_at, shown_at, Shows}
use Rattle.board.specs.Laws.Shows.{next, grow}
use Rattle.board.proofs.Laws.Rules.{report-valid, report-list}
use Rattle.board.proofs.Laws.Step.{report-shown}

-- the place of a runway w of the desk o that shows what the reports seen make it show goes on so
pub shows-after : (b : Board) (w : Runway) (o : ℕ) (seen xs : List Sent) (i : ℕ) → valid_board b ≡ true → i < b.count → runway_at b i ≡ w → owner_at b i ≡ o
    → Shows w o seen (shown_at b i) → Shows w o (seen ++ xs) (shown_at (reports b xs) i)
unfolding reports
shows-after b w o seen [] i v l e f s = rw append-nil s
shows-after b w o seen (x ∷ xs) i v l e f s =
    let d = x.desk in
    let r = x.row in
    let k = report-list b d r in
    let c = k.count in
    let h = report-shown b v d r i l ∙ (ap (λ u. next u (owner_at b i) x (shown_at b i)) e ∙ ap (λ u. next w u x (shown_at b i)) f) in
    let g = subst (Shows w o (seen ++ x ∷ [])) (sym h) (grow w o seen x (shown_at b i) s) in
    subst (λ ys. Shows w o ys (shown_at (reports (report b d r).board xs) i)) (append_assoc seen (x ∷ []) xs)
    (shows-after (report b d r).board w o (seen ++ x ∷ []) xs i (report-valid b d r v) (omega arith) (ap (λ u. get_or u i blank_runway) k.runways ∙ e)
    (ap (λ u. get_or u i 0) k.owners ∙ f) g)
