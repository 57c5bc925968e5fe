use Rattle.std.proofs.Common.{sym, ◌∙◌, arith}
use Rattle.std.proofs.lemmas.Result.{err_from_is_err_and}
use Rattle.radio.specs.declared.Field.TheVariants.{Width}
use Rattle.radio.specs.Number.{read_number}
use Rattle.radio.proofs.Rows.{started, found_within, here-at, row-off, row-bad, row_on, row-valid, row-invalid}
use Rattle.radio.proofs.read_row.Goals as goal

pub loop-field-init : goal.loop-field-init
loop-field-init c = started c.args.s.now c.blank_row-row.ensures

pub returns-in_err-found : goal.returns-in_err-found
returns-in_err-found c =
    let p = err_from_is_err_and c.from_residual.result c.from_residual.ensures.1 in
    rw (p.1, p.2) (row-off c.loop-field.invariant (here-at Width c.loop-field.field-index c.loop-field-test.true) c.in_err-found.ensures)

pub returns-then-not-may_be : goal.returns-then-not-may_be
returns-then-not-may_be c =
    let l = c.loop-field in
    row-bad l.invariant (here-at _ l.field-index c.loop-field-test.true) c.in_ok-found.ensures (sym c.may_be.ensures ∙ c.if-not-may_be.true)

pub overflow_add-at : goal.overflow_add-at
overflow_add-at c = omega (arith, found_within read_number c.args.s.now c.loop-field.at c.in_ok-found.ensures c.loop-field.invariant.inside)

pub loop-field-preserved : goal.loop-field-preserved
loop-field-preserved c =
    let l = c.loop-field in
    row_on l.invariant (here-at _ l.field-index c.loop-field-test.true) c.in_ok-found.ensures (sym c.may_be.ensures ∙ c.if-not-may_be.false) c.filled-row.ensures

pub returns-then-not-valid_row : goal.returns-then-not-valid_row
returns-then-not-valid_row c = row-invalid c.loop-field.invariant (omega arith) (sym c.valid_row.ensures ∙ c.if-not-valid_row.true)

pub returns : goal.returns
returns c = row-valid c.loop-field.invariant (omega arith) (sym c.valid_row.ensures ∙ c.if-not-valid_row.false)
