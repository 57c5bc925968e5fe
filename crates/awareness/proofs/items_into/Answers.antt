use Rattle.std.specs.Prelude.{drop}
use Rattle.std.proofs.Common.{sym}
use Rattle.awareness.proofs.Forms.{no_body, no_stop, stopped}
use Rattle.awareness.proofs.LineReading.{begun, ends, full, stray, misplaced, goes_on}
use Rattle.awareness.proofs.items_into.Goals as goal

pub items-init : goal.items-init
items-init c = rw c.requires (begun c.args.line.now)

pub items-preserved : goal.items-preserved
items-preserved c =
    let l = c.items in
    let stop = c.in-Some-behind in
    let stands = rw c.listed.ensures at (sym c.if-not-stands_behind.ensures) in
    rw c.from.ensures
    (goes_on l.invariant c.if-line-end.false c.if-read-ge-MOST_ITEMS.false stop.stop
    (stopped (drop l.at c.args.line.now) c.in-Some.ensures.says stop.ensures.says) stands c.spaces-at.ensures)

-- where the loop is left, what it says and the items so far are the answer
pub returns-then-line-end : goal.returns-then-line-end
returns-then-line-end c = sym (ends c.items.invariant c.if-line-end.true)

pub returns-then-read-ge-MOST_ITEMS : goal.returns-then-read-ge-MOST_ITEMS
returns-then-read-ge-MOST_ITEMS c = rw (full c.items.invariant c.if-line-end.false c.if-read-ge-MOST_ITEMS.true)

pub returns-in_default : goal.returns-in_default
returns-in_default c =
    let l = c.items in
    rw (stray l.invariant c.if-line-end.false c.if-read-ge-MOST_ITEMS.false (no_body (drop l.at c.args.line.now) c.in_default.ensures.says))

pub returns-in_default-behind : goal.returns-in_default-behind
returns-in_default-behind c =
    let l = c.items in
    rw (stray l.invariant c.if-line-end.false c.if-read-ge-MOST_ITEMS.false (no_stop (drop l.at c.args.line.now) c.in-Some.ensures.says c.in_default-behind.ensures.says))

pub returns-then-not-stands_behind : goal.returns-then-not-stands_behind
returns-then-not-stands_behind c =
    let l = c.items in
    let stop = c.in-Some-behind in
    let astray = rw c.listed.ensures at (sym c.if-not-stands_behind.ensures) in
    rw (misplaced l.invariant c.if-line-end.false c.if-read-ge-MOST_ITEMS.false stop.stop (stopped (drop l.at c.args.line.now) c.in-Some.ensures.says stop.ensures.says) astray)
