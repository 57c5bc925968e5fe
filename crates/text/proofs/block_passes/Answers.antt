use Rattle.std.proofs.Common.{◌≡◌, ◌∙◌, ◌+◌, ◌-◌, sym, ap, arith, take, drop, length, length-drop}
use Rattle.text.specs.Choice.{all}
use Rattle.text.specs.Laws.Passed.{block_in, block_out}
use Rattle.std.proofs.lemmas.Bool.{lt-leb}
use Rattle.text.proofs.block_passes.Goals as goal

pub returns-then-s-lt-BLOCK : goal.returns-then-s-lt-BLOCK
returns-then-s-lt-BLOCK g c p t =
    let a = c.args in sym (block_out p 16 (drop a.i a.s.now) (omega (arith, c.if-s-lt-BLOCK.true, length-drop a.i a.s.now)))

pub returns-then-i-s : goal.returns-then-i-s
returns-then-i-s g c p t =
    let a = c.args in
    let m = drop a.i a.s.now in
    let e : a.i + 16 - a.i ≡ 16 = omega arith in
    c.each.ensures p t ∙ ap (λ n. all p (take n m)) e ∙ sym (block_in p 16 m (omega (arith, c.if-s-lt-BLOCK.false, c.if-i-s.true, length-drop a.i a.s.now)))

pub returns-else-i-s : goal.returns-else-i-s
returns-else-i-s g c p t =
    let a = c.args in
    rw (block_out p 16 (drop a.i a.s.now) (omega (arith, c.if-i-s.false, c.if-s-lt-BLOCK.false, length-drop a.i a.s.now))) (lt-leb a.i (length a.s.now - 16) c.if-i-s.false)
