use Rattle.std.proofs.Common.{sym, ◌∙◌, rules, arith}
use Rattle.std.proofs.lemmas.Bool.Decides.{nat_tests}
use Rattle.text.specs.declared.refusal.Refusal.TheVariants.{RadioValue, InvalidRow, BufferTooShort}
use Rattle.text.specs.Choice.{◌and◌}
use Rattle.radio.proofs.Writing.{send-no-count, send-invalid, send-twice, sends, send-short, send-all, not-sent, sent}
use Rattle.radio.proofs.write_record.Goals as goal

pub returns-then-not-contains : goal.returns-then-not-contains
unfolding ◌and◌
returns-then-not-contains c = not-sent RadioValue (send-no-count c.args.r (search rules) (grind (arith, nat_tests)) _)

pub returns-then-not-all_valid : goal.returns-then-not-all_valid
unfolding ◌and◌
returns-then-not-all_valid c =
    not-sent InvalidRow
    (send-invalid c.args.r (search rules) c.shown-rows.ensures (grind (arith, nat_tests)) (sym c.all_valid.ensures ∙ c.if-not-all_valid.true) _)

pub returns-then-not-all_new : goal.returns-then-not-all_new
unfolding ◌and◌
returns-then-not-all_new c =
    not-sent RadioValue
    (send-twice c.args.r (search rules) c.shown-rows.ensures (grind (arith, nat_tests)) (sym c.all_valid.ensures ∙ c.if-not-all_valid.false)
    (sym c.all_new.ensures ∙ c.if-not-all_new.true) _)

pub invariant_of-list : goal.invariant_of-list
unfolding ◌and◌
invariant_of-list c =
    record {
      sendable = sends c.args.r (search rules) c.shown-rows.ensures (grind (arith, nat_tests)) (sym c.all_valid.ensures ∙ c.if-not-all_valid.false)
          (sym c.all_new.ensures ∙ c.if-not-all_new.false);
    }

pub returns-then-not-has_room : goal.returns-then-not-has_room
unfolding ◌and◌
returns-then-not-has_room c =
    not-sent BufferTooShort
    (send-short c.args.r (search rules) c.shown-rows.ensures (grind (arith, nat_tests)) (sym c.all_valid.ensures ∙ c.if-not-all_valid.false)
    (sym c.all_new.ensures ∙ c.if-not-all_new.false) _ (sym c.has_room.ensures ∙ c.if-not-has_room.true))

pub returns : goal.returns
unfolding ◌and◌
returns c =
    let f = sym c.has_room.ensures ∙ c.if-not-has_room.false in
    sent (send-all c.args.r (search rules) c.shown-rows.ensures (grind (arith, nat_tests)) (sym c.all_valid.ensures ∙ c.if-not-all_valid.false)
    (sym c.all_new.ensures ∙ c.if-not-all_new.false) _ f) f c.put.ensures
