use Rattle.std.proofs.Common.{rules}
use Rattle.std.proofs.lemmas.Iterator.{YieldsList-from_slice}
use Rattle.std.proofs.lemmas.Iterator.Search.{position_from_yields_List}
use Rattle.board.specs.Board.{names}
use Rattle.board.proofs.Places.{place-found}
use Rattle.board.proofs.place_of.Goals as goal

pub returns : goal.returns
returns c =
    let a = c.args in
    place-found a.r a.runways.now (position_from_yields_List (names a.r) _ _ _ c.position.ensures.ran (YieldsList-from_slice _ cc) (λ x b q k. search rules))
