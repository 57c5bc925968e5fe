use Rattle.std.specs.Prelude.{[], ◌∷◌, drop}
use Rattle.std.proofs.Common.{rules}
use Rattle.items.specs.Item.{letter_n, letter_p}
use Rattle.items.specs.ReadItem.{taxi_sayings, taxi_saying}
use Rattle.awareness.proofs.Names.{unspaced, name-first, name-next}
use Rattle.awareness.proofs.Details.{taxi-sayings-gap, no_gap, behind-gap}
use Rattle.awareness.proofs.taxi_saying.Goals as goal

pub returns-in_err-at : goal.returns-in_err-at
returns-in_err-at c =
    let m = drop c.args.i c.args.s.now in
    rw c.from_residual.ensures (no_gap taxi_saying taxi_sayings m (taxi-sayings-gap m) c.in_err-at.ensures.says)

pub returns : goal.returns
returns c =
    let at = c.in_ok-at.at in
    let m = drop c.args.i c.args.s.now in
    let k = drop at c.args.s.now in
    let name = unspaced taxi_saying in
    behind-gap taxi_saying taxi_sayings m (taxi-sayings-gap m) at c.in_ok-at.ensures.says
    (name-next name (letter_n ∷ []) letter_p k (name-first name letter_n k (rw c.from.ensures at c.word.ensures)) (search rules))
