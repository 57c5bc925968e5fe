use mathlib.Core.Path.{sym, ◌∙◌}
use Rattle.boardnotice.proofs.Writing.{wrote-17, wrote-21, wrote-record}
use Rattle.boardnotice.proofs.write_board.Goals as goal

pub returns-then-not-valid_board : goal.returns-then-not-valid_board
returns-then-not-valid_board c =
    let a = c.args in
    rw c.from.ensures (wrote-17 a.b a.d a.items a.language (sym c.valid_board.ensures ∙ c.if-not-valid_board.true))

pub returns-then-r-eq0 : goal.returns-then-r-eq0
returns-then-r-eq0 c =
    let a = c.args in
    rw c.from-then-r-eq0.ensures (wrote-21 a.b a.d a.items a.language (sym c.valid_board.ensures ∙ c.if-not-valid_board.false) c.board_record-r.ensures c.if-r-eq0.true)

pub returns : goal.returns
returns c =
    let a = c.args in
    wrote-record a.b a.d a.items a.language (sym c.valid_board.ensures ∙ c.if-not-valid_board.false) c.board_record-r.ensures c.if-r-eq0.false c.write_at.ensures
