-- How the code holds what stands behind TWY.
use Rattle.std.specs.Prelude.{ℕ, List, Some, map, length}
use Rattle.text.specs.Arrays.{pad, flat}
use Rattle.text.specs.Code.Held.{Told}
use Rattle.text.specs.Read.{Got}
use Rattle.items.specs.Item.{taxiway_size, taxiway_bytes}
use Rattle.awareness.specs.declared.Taxiways.{Taxiways}

-- taxiways as an item holds them: how many, and three bytes for each
abbrev pub in_slots : List (List ℕ) → ℕ × List ℕ
in_slots ws = (length ws, pad taxiway_bytes 0 (flat (map (pad taxiway_size 0) ws)))

-- r is the reading g of taxiways in m; there may be none, so that it always fits
abbrev pub HeldTaxiways : List ℕ → Got (ℕ × List ℕ) → Taxiways → Type 0
HeldTaxiways m g r = Told (λ t. (t.count, t.taxiways)) (λ t. t.next) m g (Some r)
