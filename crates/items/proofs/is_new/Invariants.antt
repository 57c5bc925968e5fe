-- It is none of all of them just where it is none of those that are left.
use Rattle.std.specs.Prelude.{◌-◌, ◌≡◌}
use Rattle.text.specs.Arrays.{slots}
use Rattle.items.specs.Item.{is_new}
use Rattle.items.proofs.is_new.Given as goal

abbrev pub invariant-loop : goal.invariant-loop
invariant-loop l = is_new l.w (slots 3 l.n l.t) ≡ is_new l.w (slots 3 (l.n - l.counter) l.rest)
