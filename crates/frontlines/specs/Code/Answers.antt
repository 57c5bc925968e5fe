-- What the code's answers say of the readers.
use Rattle.std.specs.Prelude.{ℕ, List, Option, None, Some, length, take, drop, replicate}
use Rattle.text.specs.Read.{Got, misfit, got}
use Rattle.text.specs.Arrays.{pad, flat}
use Rattle.text.specs.Code.Held.{Told}
use Rattle.text.specs.declared.Found.{Found}
use Rattle.frontlines.specs.Addresses.{address_room}
use Rattle.frontlines.specs.Filing.{originator_size}
use Rattle.frontlines.specs.Heading.{region_size, aerodrome_size, read_designator}
use Rattle.frontlines.specs.declared.Addresses.{Addresses}
use Rattle.frontlines.specs.declared.Filing.{Filing}
use Rattle.frontlines.specs.declared.Title.{Title}

-- "blank means all zero"
abbrev pub zeros : ℕ → List ℕ
zeros n = replicate n 0

-- a blank record's part of line 1
abbrev pub blank_addresses : Addresses
blank_addresses = record { priority = 0; count = 0; letters = zeros address_room }

-- of line 2
abbrev pub blank_filing : Filing
blank_filing = record { time = 0; originator = zeros originator_size }

-- of line 3
abbrev pub blank_title : Title
blank_title = record { region = zeros region_size; serial = 0; aerodrome = zeros aerodrome_size }

-- the answer that the reading of a whole line gives: nothing where it does not fit
abbrev pub found : {A : Type 0} → Got A → Option A
found misfit = None
found (got a r) = Some a

-- how many addresses stand behind a line's priority, and their array
abbrev pub list_answer : Got (List (List ℕ)) → Option (ℕ × List ℕ)
list_answer misfit = None
list_answer (got as' r) = Some (length as', pad address_room 0 (flat as'))

-- the two letters behind `SW`
abbrev pub region_at : List ℕ → List ℕ
region_at m = take 2 (drop 2 m)

-- the answer r is the reading of `SW`, these letters and the serial
abbrev pub Designated : List ℕ → Option Found → Type 0
Designated m = Told (λ f. (region_at m, f.value)) (λ f. f.next) m (read_designator m)
