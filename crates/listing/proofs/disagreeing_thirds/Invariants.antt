-- The invariant: those of the rows so far, at most three a row.
use Rattle.std.proofs.Common.{◌≡◌, ◌≤◌, ◌*◌, take}
use Rattle.listing.specs.Listing.{disagreeing_thirds}
use Rattle.listing.proofs.disagreeing_thirds.Given as goal

abbrev pub invariant-loop-row : goal.invariant-loop-row
invariant-loop-row l = (l.n ≡ disagreeing_thirds (take l.row-index l.row-items)) × (l.n ≤ 3 * l.row-index)
