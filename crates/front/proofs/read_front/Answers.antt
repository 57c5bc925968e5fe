use Rattle.std.proofs.Common.{arith}
use Rattle.std.proofs.lemmas.Iterator.{YieldsList-from_slice}
use Rattle.std.proofs.lemmas.Iterator.Consumers.{YieldsList-turn, YieldsList-end}
use Rattle.std.proofs.lemmas.List.{length_push}
use Rattle.text.specs.Laws.Lines.{line-inside}
use Rattle.front.proofs.Opening.{lines, line-number, none-read, all-read, line-missing, line-misfit, line-filled}
use Rattle.front.proofs.read_front.Goals as goal

pub lines-init : goal.lines-init
lines-init c = rw c.blank_front-front.ensures (none-read c.args.m.now)

pub overflow_add-at : goal.overflow_add-at
overflow_add-at c = omega (arith, (line-inside c.args.m.now c.lines.at c.if-m-at.false c.first_line-first.ensures).0)

pub slice_bounds-fill_line-end : goal.slice_bounds-fill_line-end
slice_bounds-fill_line-end c = omega (arith, (line-inside c.args.m.now c.lines.at c.if-m-at.false c.first_line-first.ensures).0)

pub overflow_add-at-in-lines : goal.overflow_add-at-in-lines
overflow_add-at-in-lines c = omega (arith, (line-inside c.args.m.now c.lines.at c.if-m-at.false c.first_line-first.ensures).1)

pub lines-preserved : goal.lines-preserved
lines-preserved c =
    let l = YieldsList-turn (YieldsList-from_slice lines cc) c.lines.yielded _ c.lines.yielded_by _ _ c.in-Some.field-0 c.in-Some.is c.next.ensures.steps in
    rw (length_push c.lines.yielded c.in-Some.field-0)
    (line-filled c.lines.invariant l.0 c.if-m-at.false c.first_line-first.ensures (rw (line-number l.0 l.1) at c.in-Some-fill_line.ensures))

pub returns-in_default : goal.returns-in_default
returns-in_default c =
    let l = YieldsList-end (YieldsList-from_slice lines cc) c.lines.yielded _ c.lines.yielded_by _ _ c.in_default.is c.next.ensures.steps in
    all-read c.lines.invariant (omega (arith, l.1))

pub returns-then-m-at : goal.returns-then-m-at
returns-then-m-at c =
    let l = YieldsList-turn (YieldsList-from_slice lines cc) c.lines.yielded _ c.lines.yielded_by _ _ c.in-Some.field-0 c.in-Some.is c.next.ensures.steps in
    rw c.at-fault.ensures (line-missing c.lines.invariant l.0 (rw (line-number l.0 l.1) at c.line_refusal.ensures) c.if-m-at.true)

pub returns-in_default-fill_line : goal.returns-in_default-fill_line
returns-in_default-fill_line c =
    let l = YieldsList-turn (YieldsList-from_slice lines cc) c.lines.yielded _ c.lines.yielded_by _ _ c.in-Some.field-0 c.in-Some.is c.next.ensures.steps in
    rw c.at-fault.ensures
    (line-misfit c.lines.invariant l.0 c.if-m-at.false c.first_line-first.ensures (rw (line-number l.0 l.1) at c.line_refusal.ensures)
    (rw (line-number l.0 l.1) at c.in_default-fill_line.ensures))
