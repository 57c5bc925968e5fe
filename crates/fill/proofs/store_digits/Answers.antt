use Rattle.std.proofs.Common.{◌≡◌, ℕ, sym, ◌∙◌, ap, rules, arith}
use Rattle.std.proofs.lemmas.List.Edits.{sets}
use Rattle.fill.proofs.Steps.{no-places, digit-on, digit-past}
use Rattle.text.specs.Laws.Put.{sets-out}
use Rattle.text.specs.Piece.{canonical}
use Rattle.text.specs.Numbers.{digits}
use Rattle.fill.proofs.store_digits.Goals as goal
use Rattle.fill.proofs.store_digits.Goals.{then-j-out, else-j-out}

pub returns-then-out-at : goal.returns-then-out-at
returns-then-out-at c = let a = c.args in sym (sets-out a.out.now a.at (canonical (digits a.n a.x)) c.if-out-at.true)

pub loop-k-preserved : goal.loop-k-preserved
loop-k-preserved c =
    let a = c.args in
    let l = c.loop-k in (
      search rules,
      elim c.if-j-out.branch [
        | then-j-out w ↦ rw w.out-is (digit-on l.out a.at l.k l.y w.digit_byte.result w.digit_byte.ensures c.loop-k-test.true ∙ l.invariant.1)
        | else-j-out w ↦ rw w.out-is (digit-past l.out a.at l.k l.y c.loop-k-test.true w.if-j-out.false ∙ l.invariant.1)
      ],
    )

pub returns : goal.returns
returns c =
    let a = c.args in
    let l = c.loop-k in
    let z : l.k ≡ 0 = omega arith in
    sym (ap (sets l.out a.at) (no-places l.y)) ∙ ap (λ (q : ℕ). sets l.out a.at (canonical (digits q l.y))) (sym z) ∙ l.invariant.1
