use Rattle.std.proofs.Common.{◌≡◌, true, false, sym, ◌∙◌, arith}
use Rattle.std.proofs.lemmas.Bool.Decides.{nat_tests}
use Rattle.std.proofs.lemmas.Result.{err_from_is_err_and}
use Rattle.text.specs.Choice.{◌and◌}
use Rattle.radio.specs.Record.{is_count}
use Rattle.radio.proofs.Rows.{record-off, record-odd, record-on}
use Rattle.radio.proofs.read_record.Goals as goal

pub returns-in_err-count : goal.returns-in_err-count
returns-in_err-count c =
    let p = err_from_is_err_and c.from_residual.result c.from_residual.ensures.1 in
    rw (p.1, p.2) (sym (record-off c.args.m.now c.in_err-count.ensures))

pub returns-then-not-contains : goal.returns-then-not-contains
unfolding ◌and◌
returns-then-not-contains c =
    let k : is_count c.in_ok-count.field-0.value ≡ false = grind (arith, nat_tests) in
    sym (record-odd c.args.m.now c.in_ok-count.ensures k)

pub returns : goal.returns
unfolding ◌and◌
returns c =
    let k : is_count c.in_ok-count.field-0.value ≡ true = grind (arith, nat_tests) in
    c.read_rows.ensures ∙ sym (record-on c.args.m.now c.in_ok-count.ensures k)
