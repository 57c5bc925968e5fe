use Rattle.std.proofs.Common.{refl, ◌∙◌}
use Rattle.text.specs.Laws.Held.{part-all}
use Rattle.desktext.proofs.Lines.{line-opened, too_short}
use Rattle.desktext.proofs.open_line.Goals as goal

pub returns-then-line-lt-AERODROME_SIZE : goal.returns-then-line-lt-AERODROME_SIZE
returns-then-line-lt-AERODROME_SIZE c = c.refused_opening.ensures ∙ too_short c.args.line.now c.if-line-lt-AERODROME_SIZE.true

pub returns-in_default : goal.returns-in_default
returns-in_default c = c.refused_opening-in_default.ensures ∙ line-opened c.args.line.now c.in_default.ensures refl

pub returns-in_default-runway_list : goal.returns-in_default-runway_list
returns-in_default-runway_list c =
    let line = c.args.line.now in
    let list = c.in_default-runway_list.ensures in
    c.refused_opening-in_default-runway_list.ensures ∙ line-opened line c.in-Some.ensures (rw (part-all 4 line) at list)

pub returns : goal.returns
returns c =
    let line = c.args.line.now in
    let list = c.in-Some-runway_list.ensures in
    c.«open».ensures ∙ line-opened line c.in-Some.ensures (rw (part-all 4 line) at list)
