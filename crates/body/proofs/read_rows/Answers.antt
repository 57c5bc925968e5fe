use Rattle.std.proofs.Common.{sym, ◌∙◌, ap, arith}
use Rattle.body.specs.Rows.{is_among}
use Rattle.body.proofs.Steps.{begun, missing, within, blank-first, blank-line, ninth, stray, time-inside, twice, goes_on, trailing, last_line}
use Rattle.body.proofs.read_rows.Goals as goal

pub lines-init : goal.lines-init
lines-init c = rw c.blank_rows-rows.ensures (begun c.args.m.now)

pub overflow_add-at : goal.overflow_add-at
overflow_add-at c = omega (arith, (within c.lines.invariant c.if-m-start.false c.first_line-line.ensures).1)

pub overflow_add-start : goal.overflow_add-start
overflow_add-start c = omega (arith, (within c.lines.invariant c.if-m-start.false c.first_line-line.ensures).0)

pub slice_bounds-row_line-end : goal.slice_bounds-row_line-end
slice_bounds-row_line-end c = omega (arith, (within c.lines.invariant c.if-m-start.false c.first_line-line.ensures).0)

pub returns-then-m-start : goal.returns-then-m-start
returns-then-m-start c = rw c.at.ensures (missing c.lines.invariant c.if-m-start.true)

pub returns-then-rows-eq0 : goal.returns-then-rows-eq0
returns-then-rows-eq0 c =
    rw c.at-then-rows-eq0.ensures (blank-first c.lines.invariant c.if-m-start.false c.first_line-line.ensures c.if-line-eq0.true c.if-rows-eq0.true)

pub returns-else-rows-eq0 : goal.returns-else-rows-eq0
returns-else-rows-eq0 c = blank-line c.lines.invariant c.if-m-start.false c.first_line-line.ensures c.if-line-eq0.true c.if-rows-eq0.false

pub returns-then-rows-ge-MOST_ROWS : goal.returns-then-rows-ge-MOST_ROWS
returns-then-rows-ge-MOST_ROWS c =
    rw c.at-then-rows-ge-MOST_ROWS.ensures
    (ninth c.lines.invariant c.if-m-start.false c.first_line-line.ensures c.if-line-eq0.false c.if-rows-ge-MOST_ROWS.true)

pub overflow_add-start-in-Err : goal.overflow_add-start-in-Err
overflow_add-start-in-Err c =
    omega (arith, (stray c.lines.invariant c.if-m-start.false c.first_line-line.ensures c.if-line-eq0.false c.if-rows-ge-MOST_ROWS.false c.in-Err.ensures).within)

pub returns-in-Err : goal.returns-in-Err
returns-in-Err c =
    rw c.at-in-Err.ensures
    (stray c.lines.invariant c.if-m-start.false c.first_line-line.ensures c.if-line-eq0.false c.if-rows-ge-MOST_ROWS.false c.in-Err.ensures)

pub overflow_add-start-then-is_among : goal.overflow_add-start-then-is_among
overflow_add-start-then-is_among c =
    omega (arith, time-inside c.lines.invariant c.if-m-start.false c.first_line-line.ensures c.if-line-eq0.false c.if-rows-ge-MOST_ROWS.false c.in-Ok.ensures)

pub returns-then-is_among : goal.returns-then-is_among
returns-then-is_among c =
    rw c.at-then-is_among.ensures
    (twice c.lines.invariant c.if-m-start.false c.first_line-line.ensures c.if-line-eq0.false c.if-rows-ge-MOST_ROWS.false c.in-Ok.ensures
    (ap (is_among c.in-Ok.read.row) (sym c.shown.ensures) ∙ sym c.is_among.ensures ∙ c.if-is_among.true) c.spaces.ensures)

pub lines-preserved : goal.lines-preserved
lines-preserved c =
    goes_on c.lines.invariant c.if-m-start.false c.first_line-line.ensures c.if-line-eq0.false c.if-rows-ge-MOST_ROWS.false c.in-Ok.ensures
    (ap (is_among c.in-Ok.read.row) (sym c.shown.ensures) ∙ sym c.is_among.ensures ∙ c.if-is_among.false) c.if-read.false

pub returns-then-at-m : goal.returns-then-at-m
returns-then-at-m c =
    rw c.at-then-at-m.ensures
    (trailing c.lines.invariant c.if-m-start.false c.first_line-line.ensures c.if-line-eq0.false c.if-rows-ge-MOST_ROWS.false c.in-Ok.ensures
    (ap (is_among c.in-Ok.read.row) (sym c.shown.ensures) ∙ sym c.is_among.ensures ∙ c.if-is_among.false) c.if-read.true c.if-at-m.true)

pub returns-else-at-m : goal.returns-else-at-m
returns-else-at-m c =
    last_line c.lines.invariant c.if-m-start.false c.first_line-line.ensures c.if-line-eq0.false c.if-rows-ge-MOST_ROWS.false c.in-Ok.ensures
    (ap (is_among c.in-Ok.read.row) (sym c.shown.ensures) ∙ sym c.is_among.ensures ∙ c.if-is_among.false) c.if-read.true c.if-at-m.false
