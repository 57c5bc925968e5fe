-- What a desk sees does not depend on the other's reports: with them or without, its answers and its places are the same.
use Rattle.std.specs.Prelude.{ℕ, ◌≡◌}
use Rattle.std.proofs.Math.Path.{refl}
use Rattle.std.proofs.Math.Bool.{true}
use Rattle.board.specs.declared.Board.{Board}
use Rattle.board.specs.Board.{valid_board}
use Rattle.board.specs.Report.{row_at, owner_at}

-- two boards of one list that hold the same in the places of the desk d
pub record Alike (d : ℕ) (b c : Board) : Type 0 where
  pub left : valid_board b ≡ true
  pub right : valid_board c ≡ true
  pub count : b.count ≡ c.count
  pub runways : b.runways ≡ c.runways
  pub owners : b.owners ≡ c.owners
  pub rows : (i : ℕ) → owner_at b i ≡ d → row_at b i ≡ row_at c i

pub alike_self : (d : ℕ) (b : Board) → valid_board b ≡ true → Alike d b b
alike_self d b v = record { left = v; right = v; count = refl; runways = refl; owners = refl; rows = λ i e. refl }
