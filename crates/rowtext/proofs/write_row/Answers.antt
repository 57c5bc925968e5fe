use Rattle.std.proofs.Common.{sym, ◌∙◌, rules, arith}
use Rattle.text.specs.Piece.{canonical}
use Rattle.text.specs.Laws.Sizes.{size}
use Rattle.rowtext.specs.Text.{row_pieces}
use Rattle.rowtext.specs.Writing.{row_text}
use Rattle.rowtext.specs.Laws.Sizes.{row-size}
use Rattle.rowtext.proofs.Writes.{wrote_on, wrote-off, wrote_none}
use Rattle.rowtext.proofs.write_row.Goals as goal
use Rattle.rowtext.proofs.write_row.Goals.{then-not-valid_row-via-then-not-valid_row, then-not-valid_row-via-else-not-valid_row+then-not-has_room}

pub returns-then-not-valid_row : goal.returns-then-not-valid_row
unfolding row_text size
returns-then-not-valid_row c = elim c.then-not-valid_row.branch [
  | then-not-valid_row-via-then-not-valid_row w ↦ rw (sym c.valid_row.ensures ∙ w.if-not-valid_row.true) (wrote_none _)
  | then-not-valid_row-via-else-not-valid_row+then-not-has_room w ↦
      let room = w.has_room.ensures.fits (canonical (row_pieces c.args.row)) (search rules) (row-size c.args.row) (omega arith) in
      rw (sym c.valid_row.ensures ∙ w.if-not-valid_row.false) (wrote-off (sym room ∙ w.if-not-has_room.true))
]

pub returns : goal.returns
unfolding row_text size
returns c =
    let room = c.has_room.ensures.fits (canonical (row_pieces c.args.row)) (search rules) (row-size c.args.row) (omega arith) in
    rw (sym c.valid_row.ensures ∙ c.if-not-valid_row.false) (wrote_on (sym room ∙ c.if-not-has_room.false) c.put_any_row.ensures)
