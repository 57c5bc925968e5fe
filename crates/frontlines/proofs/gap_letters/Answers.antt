use Rattle.std.proofs.Common.{◌≡◌, ◌+◌, ◌-◌, sym, ◌∙◌, drop, length-drop, arith}
use Rattle.std.proofs.Math.Seq.{drop-drop}
use Rattle.frontlines.specs.Letters.{read_letters}
use Rattle.frontlines.proofs.Groups.{gap-on, letters-stand, letters-off}
use Rattle.frontlines.proofs.gap_letters.Goals as goal

pub overflow_add-result : goal.overflow_add-result
overflow_add-result c =
    let m = c.args.s.now in
    let start = c.in_ok-start.field-0.next in
    omega (arith, (letters-stand c.args.n (drop start m) (sym c.if-counted.ensures)).long, length-drop start m)

pub returns-then-counted : goal.returns-then-counted
returns-then-counted c =
    let a = c.args in
    let start = c.in_ok-start.field-0.next in
    let k = letters-stand a.n (drop start a.s.now) (sym c.if-counted.ensures) in
    let z : start + a.n - start ≡ a.n = omega arith in
    record {
      ordered = omega arith;
      told = record {
        within = omega (arith, k.long, length-drop start a.s.now, c.in_ok-start.ensures.within);
        says = rw (z, gap-on (read_letters a.n) (drop a.i a.s.now) c.in_ok-start.ensures, k.is, drop-drop);
      };
    }

pub returns-else-counted : goal.returns-else-counted
returns-else-counted c =
    let a = c.args in
    record {
      ordered = tt;
      told = record {
        within = omega arith;
        says = gap-on (read_letters a.n) (drop a.i a.s.now) c.in_ok-start.ensures ∙ letters-off a.n (drop c.in_ok-start.field-0.next a.s.now) (sym c.if-counted.ensures);
      };
    }
