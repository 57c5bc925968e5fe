-- Parts of a message that fit, each by itself, as the code holds them.
use Rattle.std.specs.Prelude.{List, [], ◌∷◌, Result, Ok, Err, eqb}
use Rattle.text.specs.Choice.{◌else◌, first_failing, same_bytes}
use Rattle.text.specs.declared.refusal.Refusal.{Refusal}
use Rattle.text.specs.declared.refusal.Refusal.TheVariants.{SerialsDiffer, AerodromesDiffer, NotLatestTime}
use Rattle.row.specs.declared.Row.{Row}
use Rattle.body.specs.declared.Rows.{Rows}
use Rattle.body.specs.Rows.{latest}
use Rattle.remarks.specs.declared.Remarks.{Remarks}
use Rattle.front.specs.declared.Front.{Front}
use Rattle.record.specs.declared.Record.{Record}

-- the refusal of parts that fit, each by itself: 10, 11, 12, or none where the lines agree
unfoldable pub mismatch : Front → List Row → Result (Unit {0}) Refusal
mismatch f rows =
    first_failing (
    eqb f.title.serial f.serial else Err SerialsDiffer
    ∷ same_bytes f.title.aerodrome f.aerodrome else Err AerodromesDiffer
    ∷ eqb f.time (latest rows) else Err NotLatestTime
    ∷ []) (Ok tt)

-- the record that the parts make
abbrev pub record_of : Front → Rows → Remarks → Record
record_of f r x = record { addresses = f.addresses; filing = f.filing; title = f.title; rows = r; items = x.items; language = x.language }
