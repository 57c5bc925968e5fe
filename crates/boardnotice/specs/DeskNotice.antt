-- A desk's input written as a notice: the board after it, with the heading details, items and plain language of a message that serves as a model.
use Rattle.std.specs.Prelude.{ℕ, List}
use Rattle.record.specs.declared.Record.{Record}
use Rattle.text.specs.declared.Written.{Written}
use Rattle.notice.specs.Reading.{reading}
use Rattle.desktext.specs.Desk.{desk_board}
use Rattle.boardnotice.specs.declared.Details.{Details}
use Rattle.boardnotice.specs.Writing.{WroteBoard}

-- what a record's heading says besides the aerodrome and the time
abbrev pub details_of : Record → Details
details_of r = record { addresses = r.addresses; filing = r.filing; region = r.title.region; serial = r.title.serial }

-- a board written with what a record says besides the aerodrome and the rows
abbrev WroteLike : Record → List ℕ → List ℕ → List ℕ → Written → Type 0
WroteLike r desk before after w = WroteBoard (desk_board desk) (details_of r) r.items r.language before after w

-- "17 where no board opens, 21, 13 where the model is refused, 14": a refused model's record is all zeros, which is no record
abbrev pub WroteDeskNotice : List ℕ → List ℕ → List ℕ → List ℕ → Written → Type 0
WroteDeskNotice desk model before after w = WroteLike (reading model).«record» desk before after w
