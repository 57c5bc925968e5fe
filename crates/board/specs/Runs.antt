-- Lists of reports, each with its sender.
use Rattle.std.specs.Prelude.{ℕ, List, [], ◌∷◌, cond, eqb}
use Rattle.row.specs.declared.Row.{Row}
use Rattle.board.specs.declared.Board.{Board}
use Rattle.board.specs.declared.Sent.{Sent}
use Rattle.board.specs.Report.{place_for, owner_at, report}

-- "each report says who sends it": the desk d sends the row r
abbrev pub ◌sends◌ : ℕ → Row → Sent
d sends r = record { desk = d; row = r }

infixr 70 ◌sends◌
-- "each row by its own desk": the one that owns its runway on the board
abbrev pub by_owner : Board → Row → Sent
by_owner b r = owner_at b (place_for b r) sends r

-- the board after a list of reports, one by one
unfoldable pub reports : Board → List Sent → Board
reports b [] = b
reports b (x ∷ xs) = reports (report b x.desk x.row).board xs

-- the reports of a desk, in their order
unfoldable pub from : ℕ → List Sent → List Sent
from d [] = []
from d (x ∷ xs) = cond (eqb x.desk d) (x ∷ from d xs) (from d xs)

-- the answers to a desk's reports, 0 or the refusal number, in their order
unfoldable pub answers_to : ℕ → Board → List Sent → List ℕ
answers_to d b [] = []
answers_to d b (x ∷ xs) =
    let a = report b x.desk x.row in
    let rest = answers_to d a.board xs in
    cond (eqb x.desk d) (a.refusal ∷ rest) rest
