use Rattle.std.specs.Prelude.{◌≡◌}
use Rattle.std.proofs.Common.{arith, rules}
use Rattle.text.specs.Choice.{◌and◌}
use Rattle.surface.specs.Third.{valid_third}
use Rattle.row.specs.Row.{three_that, valid_row}
use Rattle.row.proofs.Thirds.{three_each}
use Rattle.row.proofs.valid_row.Goals as goal

pub returns-then-r-le-GREATEST_WIDTH : goal.returns-then-r-le-GREATEST_WIDTH
unfolding valid_row ◌and◌
returns-then-r-le-GREATEST_WIDTH c =
    let thirds : c.all.result ≡ three_that valid_third c.args.r.thirds = three_each valid_third c.args.r.thirds (search rules) (search rules) in grind arith

pub returns-else-r-le-GREATEST_WIDTH : goal.returns-else-r-le-GREATEST_WIDTH
unfolding valid_row ◌and◌
returns-else-r-le-GREATEST_WIDTH c = grind arith
