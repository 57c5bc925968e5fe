use Rattle.std.proofs.Common.{arith, length-take, sym, ◌∙◌}
use Rattle.board.specs.Laws.Rules.{opening-few, goods}
use Rattle.board.proofs.valid_board.Goals as goal
use Rattle.board.proofs.valid_board.Goals.{then-valid_opening, else-valid_opening}

pub used-requires : goal.used-requires
used-requires c = let b = c.args.b in opening-few b.aerodrome b.count b.runways b.owners (sym c.if-valid_opening.ensures)

pub fit_places-requires : goal.fit_places-requires
fit_places-requires c = rw (c.used.ensures, length-take) (omega arith)

pub latest_shown-requires : goal.latest_shown-requires
latest_shown-requires c =
    elim c.if-valid_opening.branch [
      | then-valid_opening w ↦ goods _ c.args.b.rows (sym w.fit_places.ensures ∙ sym w.value-is ∙ c.if-fit_places.true)
      | else-valid_opening w ↦ absurd (cc)
    ]
