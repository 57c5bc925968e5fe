use Rattle.std.proofs.Common.{refl, rules, sym, ◌∙◌, drop_of_length-le}
use Rattle.rowtext.specs.Reading.{parted, width_group}
use Rattle.rowtext.specs.Code.Filling.{fill_group}
use Rattle.rowtext.proofs.Steps.{faulted, some_left, left_over}
use Rattle.rowtext.proofs.width_into.Goals as goal
use Rattle.rowtext.proofs.width_into.Goals.{then-parted, else-parted}

pub returns-then-s-w : goal.returns-then-s-w
unfolding fill_group width_group parted
returns-then-s-w c =
    let m = c.args.s.now in
    let w = c.width-w.ensures in
    (w.within, rw (some_left m (search rules), w.says, drop_of_length-le m c.if-s-w.true))

pub returns : goal.returns
unfolding fill_group width_group
returns c =
    let m = c.args.s.now in
    let w = c.width-w in
    let f = c.fault.ensures in
    elim c.if-parted.branch [
      | then-parted b ↦ (faulted (rw b.at-is at f) (rw (some_left m (search rules), w.ensures.says, sym c.parted.ensures ∙ b.if-parted.true, left_over m w.result.next c.if-s-w.false)), refl)
      | else-parted b ↦ (faulted (rw b.at-is at f) (rw (some_left m (search rules), w.ensures.says, sym c.parted.ensures ∙ b.if-parted.false)), refl)
    ]
