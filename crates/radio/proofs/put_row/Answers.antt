use Rattle.text.specs.Laws.Put.{nothing_put}
use Rattle.radio.specs.Record.{each}
use Rattle.radio.proofs.Rows.{here-at}
use Rattle.radio.proofs.Writing.{number_small, field_put}
use Rattle.radio.proofs.put_row.Goals as goal

pub loop-field-init : goal.loop-field-init
unfolding each
loop-field-init c = nothing_put c.args.out.now c.told_behind-behind.ensures

pub put_number-behind-requires : goal.put_number-behind-requires
put_number-behind-requires c = rw c.number_of.ensures (number_small c.args.row c.requires c.loop-field.field-index (here-at _ c.loop-field.field-index c.loop-field-test.true))

pub loop-field-preserved : goal.loop-field-preserved
loop-field-preserved c =
    let l = c.loop-field in
    field_put c.args.row l.field-index _ c.loop-field-test.true c.number_of.ensures l.invariant c.put_number-behind.ensures
