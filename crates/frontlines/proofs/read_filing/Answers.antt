use Rattle.std.proofs.Common.{drop, drop_of_length-le}
use Rattle.std.proofs.Math.Seq.{drop-cons}
use Rattle.frontlines.proofs.Groups.{gap-long}
use Rattle.frontlines.proofs.Lines.{array-is, no-time, no-originator, filing-left, filing-whole}
use Rattle.frontlines.proofs.read_filing.Goals as goal

pub returns-in_err-time : goal.returns-in_err-time
returns-in_err-time c = rw (c.from_residual.ensures, no-time c.args.line.now c.in_err-time.ensures.says)

pub returns-in_err-originator : goal.returns-in_err-originator
returns-in_err-originator c =
    rw (c.from_residual-in_err-originator.ensures, no-originator c.args.line.now c.in_ok-time.ensures.says c.in_err-originator.ensures.told.says)

pub returns-then-originator-line : goal.returns-then-originator-line
returns-then-originator-line c =
    let m = c.args.line.now in
    let o = c.in_ok-originator in
    rw (filing-left m c.in_ok-time.ensures.says o.ensures.told.says (drop-cons m o.originator.next 0 c.if-originator-line.true))

pub returns : goal.returns
returns c =
    let m = c.args.line.now in
    let t = c.in_ok-time in
    let o = c.in_ok-originator in
    rw (
      c.bytes.ensures,
      array-is 8 _ (gap-long 7 (drop t.time.next m) o.ensures.told.says),
      filing-whole m t.ensures.says o.ensures.told.says (drop_of_length-le m c.if-originator-line.false),
    )
