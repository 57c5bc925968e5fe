use Rattle.thirds.specs.Laws.Groups.{coverages-laws, depths-laws, descriptions-laws}
use Rattle.thirds.specs.declared.Group.TheVariants.{Coverages, Depths, Descriptions}
use Rattle.rowtext.proofs.Steps.{shown, alone-shown}
use Rattle.rowtext.proofs.full_fault.Goals as goal

pub with_rest-filled-requires : goal.with_rest-filled-requires
with_rest-filled-requires c = (
  alone-shown Coverages coverages-laws _ c.in-Some.ensures.told.says,
  alone-shown Depths depths-laws _ c.in-Some-alone_group.ensures.told.says,
  shown Descriptions descriptions-laws _ c.in-Some-read_group.ensures.told.says,
)
