use Rattle.std.specs.Prelude.{◌≡◌, leb, length}
use Rattle.std.proofs.Common.{arith}
use Rattle.text.specs.Choice.{◌and◌}
use Rattle.items.proofs.Plain.{language-sized}
use Rattle.items.proofs.valid_language.Goals as goal

pub returns-then-all_plain : goal.returns-then-all_plain
unfolding ◌and◌
returns-then-all_plain c =
    let l = c.args.part.now in
    let sized : c.contains.result ≡ (leb 2 (length l) and leb (length l) 400) = grind arith in
    grind (arith, language-sized l c.contains.result sized)

pub returns-else-all_plain : goal.returns-else-all_plain
unfolding ◌and◌
returns-else-all_plain c =
    let l = c.args.part.now in
    let sized : c.contains.result ≡ (leb 2 (length l) and leb (length l) 400) = grind arith in
    grind (arith, language-sized l c.contains.result sized)
