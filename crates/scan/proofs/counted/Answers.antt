use Rattle.std.proofs.Common.{rules, sym, ap, ◌∙◌, length, drop, take}
use Rattle.std.proofs.lemmas.Bool.{lt-leb}
use Rattle.text.specs.Choice.{all}
use Rattle.text.specs.Names.{in_class}
use Rattle.text.specs.Laws.Held.{part-all}
use Rattle.text.specs.Laws.Iter.{all_each}
use Rattle.text.specs.Laws.Passed.{count-in, count-out}
use Rattle.scan.proofs.counted.Goals as goal

pub returns-then-n-rest : goal.returns-then-n-rest
returns-then-n-rest c =
    let a = c.args in
    let p = in_class a.class in
    let e = part-all c.place.result a.s.now ∙ c.place.ensures.left in
    let h = rw e at c.if-n-rest.true in
    all_each p _ 0 (search rules) ∙ ap (λ m. all p (take a.n m)) e ∙ sym (count-in p a.n (drop a.i a.s.now) h)

pub returns-else-n-rest : goal.returns-else-n-rest
returns-else-n-rest c =
    let a = c.args in
    let e = part-all c.place.result a.s.now ∙ c.place.ensures.left in
    let h = rw e at c.if-n-rest.false in
    rw (e, count-out (in_class a.class) a.n (drop a.i a.s.now) h) (lt-leb a.n (length (drop a.i a.s.now)) h)
