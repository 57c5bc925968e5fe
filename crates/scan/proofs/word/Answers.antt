use Rattle.std.proofs.Common.{ℕ, List, ◌<◌, length, get_or, ◌≡◌, ◌+◌, drop, sym, ap, ◌∙◌, arith, length-drop, rules}
use Rattle.text.specs.Read.{read_text, skip}
use Rattle.text.specs.Laws.Held.{reached-length}
use Rattle.scan.proofs.Steps.{text-short, text-other, text-gap, text-on, text-done}
use Rattle.scan.proofs.word.Goals as goal
use Rattle.scan.proofs.word.Goals.{then-b-eq-SPACE+else-s-j-3, else-b-eq-SPACE}

-- what is left behind a gap
behind_gap : (s t : List ℕ) (i j k n : ℕ) → j < length s → k < length t → get_or s j 0 ≡ get_or t k 0 → get_or t k 0 ≡ 32 → drop n s ≡ skip (drop (j + 1) s)
    → read_text (drop k t) (drop j s) ≡ read_text t (drop i s) → read_text (drop (k + 1) t) (drop n s) ≡ read_text t (drop i s)
behind_gap s t i j k n l m e f left o = ap (read_text (drop (k + 1) t)) left ∙ sym (text-gap s j t k m l e f) ∙ o

pub returns-then-s-j : goal.returns-then-s-j
returns-then-s-j c =
    let a = c.args in
    record { within = search rules; says = rw (text-short a.t.now (drop a.i a.s.now) (rw (reached-length c.place-j.ensures) c.if-s-j.true)) }

pub returns-then-s-j-2 : goal.returns-then-s-j-2
returns-then-s-j-2 c =
    let a = c.args in
    let o = c.loop-k in
    record { within = search rules; says = rw (← o.invariant.2, text-other a.s.now o.j a.t.now o.k (search rules) (search rules) c.if-s-j-2.true) }

pub returns-then-s-j-3 : goal.returns-then-s-j-3
returns-then-s-j-3 c =
    let a = c.args in
    let o = c.loop-k in
    let l = length-drop (o.k + 1) a.t.now in
    let n = length-drop c.spaces-j.result a.s.now in
    record { within = search rules; says = rw (← (behind_gap a.s.now a.t.now a.i o.j o.k c.spaces-j.result (search rules) (search rules) c.if-s-j-2.false c.if-b-eq-SPACE.true c.spaces-j.ensures.left o.invariant.2), text-short (drop (o.k + 1) a.t.now) (drop c.spaces-j.result a.s.now) (omega (arith, l, n, c.if-s-j-3.true))) }

pub loop-k-preserved : goal.loop-k-preserved
loop-k-preserved c =
    let a = c.args in
    let o = c.loop-k in
    elim c.if-b-eq-SPACE.branch [
      | then-b-eq-SPACE+else-s-j-3 w ↦
          rw w.j-is (w.spaces-j.ensures.within, omega (arith, w.if-s-j-3.false, w.spaces-j.ensures.within), behind_gap a.s.now a.t.now a.i o.j o.k w.spaces-j.result (search rules) (search rules) c.if-s-j-2.false w.if-b-eq-SPACE.true w.spaces-j.ensures.left o.invariant.2)
      | else-b-eq-SPACE w ↦
          rw w.j-is (search rules, omega arith, sym (text-on a.s.now o.j a.t.now o.k (search rules) (search rules) c.if-s-j-2.false w.if-b-eq-SPACE.false) ∙ o.invariant.2)
    ]

pub returns : goal.returns
returns c =
    let a = c.args in
    let o = c.loop-k in
    record { within = search rules; says = rw (← o.invariant.2, text-done a.s.now o.j a.t.now o.k (search rules)) }
