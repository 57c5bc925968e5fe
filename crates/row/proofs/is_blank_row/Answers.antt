use Rattle.std.specs.Prelude.{◌≡◌}
use Rattle.std.proofs.Common.{arith, rules}
use Rattle.text.specs.Choice.{◌and◌}
use Rattle.surface.specs.Third.{is_blank_third}
use Rattle.row.specs.Row.{three_that, is_blank_row}
use Rattle.row.proofs.Thirds.{three_each}
use Rattle.row.proofs.is_blank_row.Goals as goal

pub returns-then-r-eq0-4 : goal.returns-then-r-eq0-4
unfolding is_blank_row ◌and◌
returns-then-r-eq0-4 c =
    let thirds : c.all.result ≡ three_that is_blank_third c.args.r.thirds = three_each is_blank_third c.args.r.thirds (search rules) (search rules) in grind arith

pub returns-else-r-eq0-4 : goal.returns-else-r-eq0-4
unfolding is_blank_row ◌and◌
returns-else-r-eq0-4 c = grind arith
