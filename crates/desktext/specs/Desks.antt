-- What one desk sends, and what it is answered: of the row lines those that begin with its digit and a space.
use Rattle.std.specs.Prelude.{ℕ, List, [], ◌∷◌, cond, Bool, false, eqb}
use Rattle.text.specs.Read.{Got, misfit, got}
use Rattle.board.specs.declared.Board.{Board}
use Rattle.desktext.specs.Line.{read_sender, report_line}

-- the line starts with this desk
abbrev pub starts_by : ℕ → Got ℕ → Bool
starts_by d misfit = false
starts_by d (got e rest) = eqb e d

-- the lines that a desk sends, in their order
unfoldable pub lines_from : ℕ → List (List ℕ) → List (List ℕ)
lines_from d [] = []
lines_from d (l ∷ ls) = cond (starts_by d (read_sender l)) (l ∷ lines_from d ls) (lines_from d ls)

-- the answers to a desk's lines, in their order
unfoldable pub lines_answered : ℕ → Board → List (List ℕ) → List ℕ
lines_answered d b [] = []
lines_answered d b (l ∷ ls) =
    let a = report_line b l in
    let rest = lines_answered d a.board ls in
    cond (starts_by d (read_sender l)) (a.refusal ∷ rest) rest
