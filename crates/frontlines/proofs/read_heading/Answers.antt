use Rattle.std.proofs.Common.{drop, drop_of_length-le, arith}
use Rattle.std.proofs.Math.Seq.{drop-cons}
use Rattle.frontlines.proofs.Groups.{gap-long}
use Rattle.frontlines.proofs.Lines.{array-is, region-long, region-inside, serial-fits, no-designator, no-aerodrome, no-observed, heading-left, heading-whole}
use Rattle.frontlines.proofs.read_heading.Goals as goal

pub returns-in_err-serial : goal.returns-in_err-serial
returns-in_err-serial c = rw (c.from_residual.ensures, no-designator c.args.line.now c.in_err-serial.ensures.says)

pub returns-in_err-aerodrome : goal.returns-in_err-aerodrome
returns-in_err-aerodrome c =
    rw (c.from_residual-in_err-aerodrome.ensures, no-aerodrome c.args.line.now c.in_ok-serial.ensures.says c.in_err-aerodrome.ensures.told.says)

pub returns-in_err-time : goal.returns-in_err-time
returns-in_err-time c =
    rw (
      c.from_residual-in_err-time.ensures,
      no-observed c.args.line.now c.in_ok-serial.ensures.says c.in_ok-aerodrome.ensures.told.says c.in_err-time.ensures.says,
    )

pub returns-then-time-line : goal.returns-then-time-line
returns-then-time-line c =
    let m = c.args.line.now in
    let t = c.in_ok-time in
    rw (heading-left m c.in_ok-serial.ensures.says c.in_ok-aerodrome.ensures.told.says t.ensures.says (drop-cons m t.time.next 0 c.if-time-line.true))

pub slice_bounds-bytes-end : goal.slice_bounds-bytes-end
slice_bounds-bytes-end c = let k = region-inside c.in_ok-serial.ensures in omega arith

pub overflow_cast-result : goal.overflow_cast-result
overflow_cast-result c = let k = serial-fits c.in_ok-serial.ensures in record { fits = omega arith }

pub returns : goal.returns
returns c =
    let m = c.args.line.now in
    let n = c.in_ok-serial in
    let a = c.in_ok-aerodrome in
    rw (
      c.bytes.ensures,
      array-is 2 _ (region-long n.ensures),
      c.bytes-2.ensures,
      array-is 4 _ (gap-long 3 (drop n.serial.next m) a.ensures.told.says),
      heading-whole m n.ensures.says a.ensures.told.says c.in_ok-time.ensures.says (drop_of_length-le m c.if-time-line.false),
    )
