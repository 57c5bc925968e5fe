use Rattle.std.proofs.Common.{refl, ◌∙◌, ap, zero-add}
use Rattle.text.specs.Put.{told}
use Rattle.fill.proofs.text_size.Goals as goal

pub returns : goal.returns
returns g c = λ t h.
    let w = h _ _ c.write.result (record { shown = _; shows = refl; left = _; met = c.write.ensures; leaves = refl }) in
    w.place ∙ ap (told _) (zero-add _)
