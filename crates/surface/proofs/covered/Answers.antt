use Rattle.surface.specs.Assess.{covered}
use Rattle.surface.proofs.covered.Goals as goal

pub returns : goal.returns
unfolding covered
returns c = cc
