use Rattle.text.specs.Laws.Put.{more}
use Rattle.fill.proofs.line_under.Goals as goal

pub returns : goal.returns
returns g c = λ t h. more c.put-line.ensures (c.in_rest.ensures t h)
