use Rattle.desktext.proofs.Steps.{reached-take}
use Rattle.desktext.proofs.State.begun.Goals as goal

pub returns : goal.returns
returns c = let s = c.args.self.now in reached-take s.held s.count _ c.place-n.ensures
