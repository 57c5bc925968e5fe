-- What the code's answers say of the readers, and how the items of a line are kept.
use Rattle.std.specs.Prelude.{ℕ, ◌≡◌, List, [], Option, None, Some, MatchOption}
use Rattle.text.specs.Code.Held.{Told}
use Rattle.text.specs.Read.{Got, misfit, got}
use Rattle.items.specs.Parts.{make_items}
use Rattle.items.specs.declared.Item.{Item}
use Rattle.items.specs.declared.Items.{Items}
use Rattle.awareness.specs.declared.Detail.{Detail}
use Rattle.awareness.specs.declared.ItemFound.{ItemFound}

-- the answer r is the place behind a fixed text, whose reading in m is g
abbrev pub HeldText : List ℕ → Got (Unit {0}) → Option ℕ → Type 0
HeldText = Told (λ _. tt) (λ n. n)

-- the answer r is the reading g of what a runway's item says besides its letter
abbrev pub HeldDetail : List ℕ → Got (ℕ × ℕ) → Option Detail → Type 0
HeldDetail = Told (λ d. (d.edge, d.amount)) (λ d. d.next)

-- the answer r is the reading g of an item in m
abbrev pub HeldItem : List ℕ → Got Item → Option ItemFound → Type 0
HeldItem = Told (λ f. f.item) (λ f. f.next)

-- a reading of the awareness line as the code answers it: the items in their array
abbrev pub items_answer : Got (List Item) → Option Items
items_answer misfit = None
items_answer (got is r) = Some (make_items is)

-- what an answer says of the array that it was lent: its items, or nothing where it is None
abbrev pub answered : Items → Option (Unit {0}) → Option Items
answered i None = None
answered i (Some u) = Some i

-- the reading g of the awareness line is in the array i, and the answer r tells whether it fits; none are there where it does not
abbrev pub ItemsLeft : Got (List Item) → Items → Option (Unit {0}) → Type 0
ItemsLeft g i r = (answered i r ≡ items_answer g) × MatchOption r (i ≡ make_items []) (λ _. Unit {0})
