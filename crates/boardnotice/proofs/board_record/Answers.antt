use Rattle.boardnotice.proofs.board_record.Goals as goal

pub returns : goal.returns
returns c = cc
