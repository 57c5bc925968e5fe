use Rattle.std.proofs.Common.{arith, sym, ◌∙◌}
use Rattle.board.specs.Laws.Latest.{upto-none, upto_all}
use Rattle.board.proofs.Places.{time-stays, time-next}
use Rattle.board.proofs.latest_shown.Goals as goal
use Rattle.board.proofs.latest_shown.Goals.{then-not-is_blank_row, else-not-is_blank_row}

pub loop-r-init : goal.loop-r-init
loop-r-init c = upto-none c.args.rows c.requires

pub loop-r-preserved : goal.loop-r-preserved
loop-r-preserved c =
    let l = c.loop-r in
    elim c.if-not-is_blank_row.branch [
      | then-not-is_blank_row w ↦ rw w.latest-is (time-next c.args.rows _ l.r-index l.latest c.requires (omega arith) l.invariant _ (sym c.is_blank_row.ensures ∙ w.if-not-is_blank_row.true) w.newest-latest.ensures)
      | else-not-is_blank_row w ↦ rw w.latest-is (time-stays c.args.rows _ l.r-index l.latest c.requires (omega arith) l.invariant (sym c.is_blank_row.ensures ∙ w.if-not-is_blank_row.false))
    ]

pub returns : goal.returns
returns c = let l = c.loop-r in upto_all c.args.rows l.r-index l.latest (omega arith) l.invariant
