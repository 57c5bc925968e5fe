use Rattle.thirds.specs.Laws.Groups.{codes-laws}
use Rattle.thirds.specs.declared.Group.TheVariants.{Codes}
use Rattle.rowtext.proofs.Steps.{alone-shown}
use Rattle.rowtext.proofs.codes_into.Goals as goal

pub with_group-requires : goal.with_group-requires
with_group-requires c = alone-shown Codes codes-laws _ c.in-Some.ensures.told.says
