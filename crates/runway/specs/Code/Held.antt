-- What the code's answer says of the readers of a runway.
use Rattle.std.specs.Prelude.{ℕ, ◌≤◌, ◌≡◌, List, Option, length, drop}
use Rattle.text.specs.Read.{Got, got}
use Rattle.text.specs.Code.Held.{Told}
use Rattle.runway.specs.declared.RunwayFound.{RunwayFound}

-- the answer r is the reading g of a side in m, with the place behind it: a side is always found, since none is one
pub record HeldSide (m : List ℕ) (g : Got ℕ) (r : ℕ × ℕ) : Type 0 where
  pub within : r.1 ≤ length m
  pub says : g ≡ got r.0 (drop r.1 m)

-- the answer r is the reading g of a runway in m
abbrev pub HeldRunway : List ℕ → Got (ℕ × ℕ) → Option RunwayFound → Type 0
HeldRunway = Told (λ f. (f.number, f.side)) (λ f. f.next)
