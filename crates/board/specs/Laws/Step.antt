-- One report at one place: what the place shows goes on by `next`.
use Rattle.std.specs.Prelude.{◌≡◌}
use Rattle.std.proofs.Math.Bool.{true}
use Rattle.row.specs.declared.Row.{Row}
use Rattle.row.specs.Row.{valid_row}
use Rattle.board.specs.Shows.{row, shown}
use Rattle.board.specs.Laws.Rows.{valid-not-blank}

pub shown-valid : (r : Row) → valid_row r ≡ true → shown r ≡ row r
shown-valid r v = rw (valid-not-blank r v)
