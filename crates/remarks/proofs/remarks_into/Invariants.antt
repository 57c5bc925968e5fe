use Rattle.std.proofs.Common.{◌≡◌, [], cond}
use Rattle.items.specs.Parts.{make_language}
use Rattle.remarks.proofs.Steps.{SoFar, above_items}
use Rattle.remarks.proofs.remarks_into.Given as goal

abbrev pub invariant-lines : goal.invariant-lines
invariant-lines l = SoFar l.m (above_items l.below l.read.items) l.at × (l.read.language ≡ make_language [])

-- how many lines may come yet
abbrev pub decreases-lines : goal.decreases-lines
decreases-lines l = cond l.below 1 2
