-- How long the lines of the rows and below them are.
use Rattle.std.specs.Prelude.{◌*◌, ◌≤◌, List, [], ◌∷◌, map, length}
use Rattle.std.proofs.Common.{arith}
use Rattle.text.specs.Laws.Sizes.{total}
use Rattle.row.specs.declared.Row.{Row}
use Rattle.rowtext.specs.Text.{row_pieces}
use Rattle.rowtext.specs.Laws.Sizes.{row-size}

pub rows-size : (rs : List Row) → total (map row_pieces rs) ≤ length rs * 148
unfolding total
rows-size [] = omega arith
rows-size (r ∷ rs) = let h = rows-size rs in let k = row-size r in omega arith
