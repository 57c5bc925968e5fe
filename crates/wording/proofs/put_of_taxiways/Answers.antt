use mathlib.Core.List.{◌∷◌}
use Rattle.text.specs.Laws.Put.{more}
use Rattle.wording.proofs.Writing.{of-taxiways}
use Rattle.wording.proofs.put_of_taxiways.Goals as goal

pub returns : goal.returns
returns c =
    let a = c.args in
    rw (of-taxiways a.i (32 ∷ a.said.now))
    (more c.put-at.ensures (more c.put_taxiways-at.ensures (more c.put-at-2.ensures c.put.ensures)))
