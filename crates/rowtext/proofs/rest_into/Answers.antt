use Rattle.std.proofs.Common.{◌≡◌, List, ℕ, false, sym, ◌∙◌, ap, lit≤, drop_of_length-le}
use Rattle.text.specs.Read.{got}
use Rattle.thirds.specs.Groups.{highest}
use Rattle.thirds.specs.Laws.Groups.{descriptions-laws}
use Rattle.thirds.specs.declared.Group.TheVariants.{Descriptions}
use Rattle.rowtext.specs.Reading.{short}
use Rattle.rowtext.specs.Code.Filling.{fill_group}
use Rattle.rowtext.specs.Laws.Short.{full-took, short_none, short-more, short-filled}
use Rattle.rowtext.proofs.Steps.{faulted, left_over, shown}
use Rattle.rowtext.proofs.rest_into.Goals as goal
use Rattle.rowtext.proofs.rest_into.Goals.{in-Some-read_group+else-s-w, in_default-read_group}

pub returns-in-Some : goal.returns-in-Some
unfolding fill_group
returns-in-Some c = let f = c.in-Some.ensures in rw (full-took c.args.row.now c.args.s.now f.1) f

pub with_rest-short-requires : goal.with_rest-short-requires
unfolding highest
with_rest-short-requires c =
    ((lit≤ tt, lit≤ tt, lit≤ tt), (lit≤ tt, lit≤ tt, lit≤ tt), shown Descriptions descriptions-laws _ c.in-Some-read_group.ensures.told.says)

pub returns-then-not-is_short : goal.returns-then-not-is_short
unfolding fill_group
returns-then-not-is_short c =
    let m = c.args.s.now in
    let w = c.width-w in
    let e = drop_of_length-le m c.if-s-w.true in
    let same = c.in_default.ensures in
    let is = short-filled c.args.row.now c.with_rest-short.result m c.in-Some-read_group.ensures.told.says (w.ensures.says ∙ ap (λ (k : List ℕ). got w.result.value k) e)
    (rw same at c.with_rest-short.ensures) in
    (faulted c.fault.ensures (is ∙ rw (sym c.is_short.ensures ∙ c.if-not-is_short.true)), same)

pub returns-then-s-w : goal.returns-then-s-w
unfolding fill_group
returns-then-s-w c =
    let m = c.args.s.now in
    let w = c.width-w in
    let e = drop_of_length-le m c.if-s-w.true in
    let is = short-filled c.args.row.now c.with_rest-short.result m c.in-Some-read_group.ensures.told.says (w.ensures.says ∙ ap (λ (k : List ℕ). got w.result.value k) e)
    (rw c.in_default.ensures at c.with_rest-short.ensures) in
    (w.ensures.within, is ∙ rw (sym c.is_short.ensures ∙ c.if-not-is_short.false, e))

pub returns : goal.returns
unfolding fill_group
returns c =
    let m = c.args.s.now in
    let off : short m ≡ false = elim c.match-read_group.branch [
      | in-Some-read_group+else-s-w b ↦ short-more m b.in-Some-read_group.ensures.told.says b.width-w.ensures.says (left_over m b.width-w.result.next b.if-s-w.false)
      | in_default-read_group b ↦ short_none m b.in_default-read_group.ensures.told.says
    ] in
    rw off (rw c.in_default.ensures at c.full_fault.ensures)
