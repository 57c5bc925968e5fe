-- What a fault says of a reading.
use Rattle.std.specs.Prelude.{◌≤◌, ◌≡◌, ℕ, List, length, drop}
use Rattle.text.specs.Out.{Out, refuse}
use Rattle.text.specs.Refusals.{number}
use Rattle.text.specs.declared.refusal.Fault.{Fault}

-- the fault f refuses the reading o of m
pub record Refused {A : Type 0} (m : List ℕ) (o : Out A) (f : Fault) : Type 0 where
  pub within : f.place ≤ length m
  pub says : o ≡ refuse (number f.refusal) (drop f.place m)
