use Rattle.std.proofs.Common.{sym, ◌∙◌}
use Rattle.thirds.specs.Laws.Groups.{coverages-laws, depths-laws, descriptions-laws}
use Rattle.thirds.specs.declared.Group.TheVariants.{Coverages, Depths, Descriptions}
use Rattle.rowtext.specs.Laws.Short.{full_is}
use Rattle.rowtext.proofs.Steps.{shown}
use Rattle.rowtext.proofs.full_into.Goals as goal

pub with_rest-filled-requires : goal.with_rest-filled-requires
with_rest-filled-requires c = (
  shown Coverages coverages-laws _ c.in_ok-v.ensures.told.says,
  shown Depths depths-laws _ c.in_ok-d.ensures.told.says,
  shown Descriptions descriptions-laws _ c.in_ok-k.ensures.told.says,
)

pub returns-then-valid_depths : goal.returns-then-valid_depths
returns-then-valid_depths c = (
  c.in_ok-k.ensures.told.within,
  full_is c.args.row.now c.with_rest-filled.result c.args.s.now c.in_ok-v.ensures.told.says c.in_ok-d.ensures.told.says c.in_ok-k.ensures.told.says c.with_rest-filled.ensures
      (sym c.valid_coverages.ensures ∙ c.if-valid_coverages.true) (sym c.valid_depths.ensures ∙ c.if-valid_depths.true),
)
