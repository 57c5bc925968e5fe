-- Lines 1 to 5: those that are yielded are read and fill the front.
use Rattle.std.proofs.Common.{length}
use Rattle.front.proofs.Opening.{Upto}
use Rattle.front.proofs.read_front.Given as goal

abbrev pub invariant-lines : goal.invariant-lines
invariant-lines l = Upto l.m (length l.yielded) l.at l.front
