use mathlib.Core.List.{◌∷◌}
use Rattle.text.specs.Laws.Put.{more}
use Rattle.wording.proofs.Writing.{of-runway}
use Rattle.wording.proofs.put_of_runway.Goals as goal

pub returns : goal.returns
returns c =
    let a = c.args in
    rw (of-runway a.i (32 ∷ a.said.now))
    (more c.put-at.ensures (more c.put-at-2.ensures (more c.put_runway-at.ensures (more c.put-at-3.ensures c.put.ensures))))
