use Rattle.std.specs.Prelude.{◌≡◌, refl, List, [], ◌∷◌, Bool, true, false}
use Rattle.std.specs.List.{list_any}
use mathlib.Core.Bool.{beq}
use Rattle.due.specs.Change.{some, is_due}
use Rattle.due.proofs.compared.Goals as goal

-- `contains` of whether a third counts
some-counted : (bs : List Bool) → list_any (λ b. beq b true) bs ≡ some bs
some-counted [] = refl
some-counted (true ∷ bs) = refl
some-counted (false ∷ bs) = some-counted bs

pub returns-then-contains : goal.returns-then-contains
unfolding is_due
returns-then-contains c = rw (← c.counts_of-counts.ensures, ← some-counted c.counts_of-counts.result, ← c.contains.ensures.value, c.if-contains.true)

pub returns-else-contains : goal.returns-else-contains
unfolding is_due
returns-else-contains c = rw (← c.counts_of-counts.ensures, ← some-counted c.counts_of-counts.result, ← c.contains.ensures.value, c.if-contains.false)
