use Rattle.boardnotice.proofs.board_notice.Goals as goal

pub returns : goal.returns
returns c =
    rw (← c.desk_board.ensures, ← c.read.ensures, ← c.details_of.ensures) c.write_board.ensures
