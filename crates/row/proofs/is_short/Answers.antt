use Rattle.std.specs.Prelude.{◌≡◌}
use Rattle.std.proofs.Common.{arith, rules}
use Rattle.text.specs.Choice.{◌and◌, all}
use Rattle.text.specs.Laws.Iter.{all_each}
use Rattle.surface.specs.Third.{blank_third}
use Rattle.row.specs.Row.{is_bare, is_six, is_dry, is_short}
use Rattle.row.proofs.is_short.Goals as goal

pub returns-then-all-2 : goal.returns-then-all-2
unfolding is_short is_six is_dry ◌and◌
returns-then-all-2 c =
    let ts = c.args.r.thirds in
    let bare : c.all.result ≡ all is_bare ts = all_each is_bare ts blank_third (search rules) in
    let six : c.all-then-all.result ≡ all is_six ts = all_each is_six ts blank_third (search rules) in
    grind arith

pub returns-else-all-2 : goal.returns-else-all-2
unfolding is_short is_six is_dry ◌and◌
returns-else-all-2 c =
    let ts = c.args.r.thirds in
    let bare : c.all.result ≡ all is_bare ts = all_each is_bare ts blank_third (search rules) in
    let six : c.all-then-all.result ≡ all is_six ts = all_each is_six ts blank_third (search rules) in
    let dry : c.all-else-all-2.result ≡ all is_dry ts = all_each is_dry ts blank_third (search rules) in
    grind arith

pub returns-else-all : goal.returns-else-all
unfolding is_short ◌and◌
returns-else-all c =
    let ts = c.args.r.thirds in
    let bare : c.all.result ≡ all is_bare ts = all_each is_bare ts blank_third (search rules) in
    grind arith
