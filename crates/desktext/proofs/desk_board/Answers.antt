use Rattle.std.proofs.Common.{◌∙◌}
use Rattle.desktext.proofs.Steps.{kept-whole}
use Rattle.desktext.proofs.desk_board.Goals as goal

pub returns : goal.returns
returns c =
    let fed = rw c.start.ensures at c.feed-fed.ensures.state_value in
    c.board.ensures ∙ kept-whole c.args.input.now fed c.take_last.ensures.standing_value
