-- What the code's answers say of the readers of a space, and of a runway with its owner.
use Rattle.std.specs.Prelude.{ℕ, List, [], ◌∷◌, Option}
use Rattle.text.specs.Read.{Got}
use Rattle.text.specs.Code.Held.{Told}
use Rattle.board.specs.declared.Runway.{Runway}
use Rattle.desktext.specs.declared.OwnedFound.{OwnedFound}

-- the answer r is the reading g of one space in m: the place behind it
abbrev pub HeldSpace : List ℕ → Got (List ℕ) → Option ℕ → Type 0
HeldSpace = Told (λ _. 32 ∷ []) (λ i. i)

-- the answer r is the reading g of a runway and its owner in m
abbrev pub HeldOwned : List ℕ → Got (Runway × ℕ) → Option OwnedFound → Type 0
HeldOwned = Told (λ f. (f.runway, f.owner)) (λ f. f.next)
