-- What is put and the names in the slots that are left are all the names.
use Rattle.std.specs.Prelude.{ℕ, ◌-◌, ◌≡◌, List, ◌++◌}
use Rattle.text.specs.Piece.{canonical}
use Rattle.text.specs.Put.{Put}
use Rattle.wording.specs.Code.Slots.{taxiway_names}
use Rattle.wording.proofs.put_taxiways.Given as goal

abbrev pub invariant-loop : goal.invariant-loop
invariant-loop l = (p : List ℕ) × Put l.at p l.fn.out l.out l.behind × (canonical (taxiway_names l.n l.t) ≡ p ++ canonical (taxiway_names (l.n - l.counter) l.rest))
