use Rattle.std.proofs.Common.{◌∙◌, ne_eqb}
use Rattle.text.specs.Laws.Refusals.{number-one}
use Rattle.notice.specs.Code.Below.{disagree_on}
use Rattle.notice.specs.Laws.Disagree.{time-back, serial-back, aerodrome-at}
use Rattle.notice.proofs.disagreement_place.Goals as goal

pub before_end-requires-clause-inside : goal.before_end-requires-clause-inside
before_end-requires-clause-inside c = (serial-back c.requires).inside

pub before_end-requires-clause-enough : goal.before_end-requires-clause-enough
before_end-requires-clause-enough c = (serial-back c.requires).enough

pub before_end-requires-in_default : goal.before_end-requires-in_default
before_end-requires-in_default c = let b = time-back c.requires in record { inside = b.inside; enough = b.enough }

pub returns-in-SerialsDiffer : goal.returns-in-SerialsDiffer
unfolding disagree_on
returns-in-SerialsDiffer c = λ o. rw c.in-SerialsDiffer.is (c.before_end.ensures ∙ (serial-back o).placed)

pub returns-in-AerodromesDiffer : goal.returns-in-AerodromesDiffer
unfolding disagree_on
returns-in-AerodromesDiffer c = λ o. rw c.in-AerodromesDiffer.is (c.lines_size.ensures ∙ aerodrome-at o)

pub returns-in_default : goal.returns-in_default
unfolding disagree_on
returns-in_default c = λ o.
    let r = c.args.refusal in
    let s = ne_eqb _ _ (λ e. c.in_default.not-SerialsDiffer (number-one r _ e)) in
    let a = ne_eqb _ _ (λ e. c.in_default.not-AerodromesDiffer (number-one r _ e)) in
    rw (s, a) (c.before_end-in_default.ensures ∙ (time-back o).placed)
