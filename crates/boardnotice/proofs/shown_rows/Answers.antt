use Rattle.std.proofs.Common.{◌≡◌, ◌<◌, ◌∙◌, sym, rules, arith, length, length-set}
use Rattle.boardnotice.proofs.Writing.{shown-all, shown-end, shown-off, shown-on}
use Rattle.boardnotice.proofs.shown_rows.Goals as goal
use Rattle.boardnotice.proofs.shown_rows.Goals.{then-not-is_blank_row, else-not-is_blank_row}

pub loop-r-init : goal.loop-r-init
loop-r-init c = let n : length c.args.rows.now ≡ 8 = search rules in (search rules, search rules, rw c.blank_row-shown.ensures (shown-all c.args.rows.now (omega arith)))

pub loop-r-preserved : goal.loop-r-preserved
loop-r-preserved c =
    let rows = c.args.rows.now in
    let l = c.loop-r in
    let n : length rows ≡ 8 = search rules in
    let h : l.r-index < length rows = omega arith in
    elim c.if-not-is_blank_row.branch [
      | then-not-is_blank_row w ↦
          rw (w.count-is, w.shown-is) (omega arith, simp length-set l.invariant.1, sym (shown-on rows l.r-index l.count l.shown _ h (sym c.is_blank_row.ensures ∙ w.if-not-is_blank_row.true)) ∙ l.invariant.2)
      | else-not-is_blank_row w ↦
          rw (w.count-is, w.shown-is) (omega arith, l.invariant.1, sym (shown-off rows l.r-index l.count l.shown _ h (sym c.is_blank_row.ensures ∙ w.if-not-is_blank_row.false)) ∙ l.invariant.2)
    ]

pub returns : goal.returns
returns c =
    let rows = c.args.rows.now in
    let l = c.loop-r in
    let n : length rows ≡ 8 = search rules in
    shown-end rows l.r-index l.count l.shown (omega arith) ∙ l.invariant.2
