-- All of them fit just where those that are left do.
use Rattle.std.specs.Prelude.{◌-◌, ◌≡◌}
use Rattle.items.specs.Item.{slots_fit}
use Rattle.items.proofs.slots_fit.Given as goal

abbrev pub invariant-loop-k : goal.invariant-loop-k
invariant-loop-k l = slots_fit l.n l.t ≡ slots_fit (l.n - l.k) l.rest
