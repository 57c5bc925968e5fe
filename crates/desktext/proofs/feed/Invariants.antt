-- What is left of the piece, fed from here, gives the state and the text that the whole piece gives.
use Rattle.std.proofs.Common.{◌≡◌, drop}
use Rattle.desktext.specs.Pieces.{fed_state, fed_text}
use Rattle.desktext.proofs.Steps.{Goes}
use Rattle.desktext.proofs.feed.Given as goal

abbrev pub invariant-loop-b : goal.invariant-loop-b
invariant-loop-b l = record {
  state : fed_state l.state (drop l.b-index l.piece) ≡ fed_state l.initial.state l.piece;
  text : Goes l.at (fed_text l.initial.state l.piece) l.initial.out l.behind (fed_text l.state (drop l.b-index l.piece)) l.out;
}
