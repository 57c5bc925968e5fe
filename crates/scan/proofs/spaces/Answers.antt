use Rattle.std.proofs.Common.{◌+◌, drop, length, sym, ap, ◌∙◌, arith, drop_of_length-le}
use Rattle.std.proofs.Math.Seq.{drop-length}
use Rattle.text.specs.Names.{run, is_space}
use Rattle.scan.proofs.Eights.{spaces-end, spaces-on, chunk-within, chunk-is}
use Rattle.scan.proofs.Steps.{skip-end, skip-space, skip-other, skip-past}
use Rattle.scan.proofs.spaces.Goals as goal

pub returns-then-s-i : goal.returns-then-s-i
returns-then-s-i c =
    let a = c.args in
    record { within = omega arith; left = drop-length a.s.now ∙ sym (skip-end a.s.now a.i c.if-s-i.true ∙ drop_of_length-le a.s.now c.if-s-i.true) }

pub returns-then-s-i-ne-SPACE : goal.returns-then-s-i-ne-SPACE
returns-then-s-i-ne-SPACE c =
    let a = c.args in
    record { within = omega (arith, c.if-s-i.false); left = sym (skip-other a.s.now a.i c.if-s-i.false c.if-s-i-ne-SPACE.true) }

pub returns-in_default : goal.returns-in_default
returns-in_default c =
    let a = c.args in
    let r = c.last_spaces.ensures in
    record { within = r.within; left = r.left ∙ sym (skip-space a.s.now a.i c.if-s-i.false c.if-s-i-ne-SPACE.false) }

pub returns-then-n-lt8 : goal.returns-then-n-lt8
returns-then-n-lt8 c =
    let a = c.args in
    let m = a.s.now in
    let h = c.in-Some.ensures.cases in
    let r = spaces-end m (a.i + 1) (chunk-within m (a.i + 1) _ h) (c.leading_spaces-n.ensures ∙ ap (λ b. length (run is_space b)) (chunk-is m (a.i + 1) _ h)) c.if-n-lt8.true in
    record { within = r.within; left = r.left ∙ sym (skip-past (drop (a.i + 1) m)) ∙ sym (skip-space m a.i c.if-s-i.false c.if-s-i-ne-SPACE.false) }

pub returns-else-n-lt8 : goal.returns-else-n-lt8
returns-else-n-lt8 c =
    let a = c.args in
    let m = a.s.now in
    let h = c.in-Some.ensures.cases in
    let r = c.far_spaces.ensures in
    let on = spaces-on m (a.i + 1) (chunk-within m (a.i + 1) _ h) (c.leading_spaces-n.ensures ∙ ap (λ b. length (run is_space b)) (chunk-is m (a.i + 1) _ h)) c.if-n-lt8.false in
    record { within = r.within; left = r.left ∙ skip-past (drop (a.i + 1 + 8) m) ∙ on ∙ sym (skip-past (drop (a.i + 1) m)) ∙ sym (skip-space m a.i c.if-s-i.false c.if-s-i-ne-SPACE.false) }
