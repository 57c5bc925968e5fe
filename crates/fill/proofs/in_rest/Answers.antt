use Rattle.std.proofs.Common.{refl}
use Rattle.text.specs.Laws.Put.{lent-rest}
use Rattle.fill.proofs.in_rest.Goals as goal

pub returns : goal.returns
returns g c = λ t h.
    let w = h _ _ c.write-n.result (record { shown = _; shows = refl; left = _; met = c.write-n.ensures; leaves = refl }) in
    lent-rest c.place-start.ensures w c.told_behind.ensures
