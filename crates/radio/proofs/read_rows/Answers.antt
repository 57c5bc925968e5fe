use Rattle.std.proofs.Common.{ap, sym, ◌∙◌, arith}
use Rattle.std.proofs.lemmas.Result.{err_from_is_err_and}
use Rattle.radio.specs.Answers.{answer}
use Rattle.radio.specs.Record.{read_row}
use Rattle.radio.proofs.Rows.{begun, found_within, rows-off, rows-twice, rows_on, rows-over, rows-done}
use Rattle.radio.proofs.read_rows.Goals as goal

pub loop-k-init : goal.loop-k-init
loop-k-init c = rw c.blank_row-rows.ensures (begun c.args.m.now c.args.count)

pub returns-in_err-found : goal.returns-in_err-found
returns-in_err-found c =
    let p = err_from_is_err_and c.from_residual.result c.from_residual.ensures.1 in
    rw (p.1, p.2) (sym (ap answer (rows-off c.loop-k.invariant (omega arith) c.in_err-found.ensures)))

pub returns-then-is_among : goal.returns-then-is_among
returns-then-is_among c = sym (ap answer (rows-twice c.loop-k.invariant (omega arith) c.in_ok-found.ensures (sym c.is_among.ensures ∙ c.if-is_among.true)))

pub overflow_add-at : goal.overflow_add-at
overflow_add-at c = omega (arith, found_within read_row c.args.m.now c.loop-k.at c.in_ok-found.ensures c.loop-k.invariant.inside)

pub loop-k-preserved : goal.loop-k-preserved
loop-k-preserved c = rows_on c.loop-k.invariant (omega arith) c.in_ok-found.ensures c.requires (sym c.is_among.ensures ∙ c.if-is_among.false)

pub returns-then-at-m : goal.returns-then-at-m
returns-then-at-m c = sym (ap answer (rows-over c.loop-k.invariant (omega arith) c.if-at-m.true))

pub returns : goal.returns
returns c = sym (rows-done c.loop-k.invariant (omega arith) c.if-at-m.false)
