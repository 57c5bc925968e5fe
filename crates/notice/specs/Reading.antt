-- Reading a message: "1 first, then line by line, where the first line that doesn't fit decides; 10, 11, 12 in that order at the end".
-- Document 02, request 2: "A refused reading now also gives a byte place."
use Rattle.std.specs.Prelude.{ℕ, List, [], ◌∷◌, cond, eqb, leb, length}
use Rattle.text.specs.Choice.{◌else◌, first_failing, same_bytes}
use Rattle.text.specs.Lines.{longest, Cut, onward, cuts}
use Rattle.text.specs.Out.{Out, refuse, taken, place, next, read_line}
use Rattle.text.specs.Refusals.{too_long, line_one_or_two, line_three, outline, serials_differ, aerodromes_differ, not_latest_time}
use Rattle.row.specs.declared.Row.{Row}
use Rattle.frontlines.specs.Addresses.{read_addresses}
use Rattle.frontlines.specs.Filing.{read_filing}
use Rattle.frontlines.specs.declared.Heading.{Heading}
use Rattle.frontlines.specs.Heading.{read_heading, read_serial_line, read_aerodrome}
use Rattle.front.specs.Places.{time_on, serial_on}
use Rattle.body.specs.Rows.{most_rows, latest, read_rows}
use Rattle.remarks.specs.Remarks.{read_remarks}
use Rattle.record.specs.declared.Record.{Record}
use Rattle.record.specs.declared.Reading.{Reading}
use Rattle.record.specs.Record.{make_record}
use Rattle.record.specs.Answer.{accepted, refused}

-- "serials differ; aerodromes differ; heading time not the latest": the record, where lines 3, 4 and 5 and the rows agree; else
-- "for 10, 11 and 12 the later serial, the later aerodrome and the heading time"
unfoldable pub agreeing : Heading → Cut → ℕ → Cut → List ℕ → Cut → List Row → Record → Out Record
agreeing heading line₃ serial line₄ aerodrome line₅ rows r =
    first_failing (
    eqb heading.title.serial serial else refuse serials_differ (serial_on line₄)
    ∷ same_bytes heading.title.aerodrome aerodrome else refuse aerodromes_differ (onward line₅)
    ∷ eqb heading.time (latest rows) else refuse not_latest_time (time_on line₃)
    ∷ []) (taken r)

-- "A missing line 1 or 2 gives 2, a missing line 3 gives 3, any later one 4"
unfoldable pub read_notice : List Cut → Out Record
read_notice cs₁ =
    read_line line_one_or_two read_addresses cs₁ (λ addresses _ cs₂.
    read_line line_one_or_two read_filing cs₂ (λ filing _ cs₃.
    read_line line_three read_heading cs₃ (λ heading line₃ cs₄.
    read_line outline read_serial_line cs₄ (λ serial line₄ cs₅.
    read_line outline read_aerodrome cs₅ (λ aerodrome line₅ cs₆.
    next (read_rows most_rows [] cs₆) (λ block.
    next (read_remarks block.after) (λ remarks.
    agreeing heading line₃ serial line₄ aerodrome line₅ block.rows (make_record addresses filing heading.title block.rows remarks))))))))

-- the answer to the message m
abbrev pub result : List ℕ → Out Record → Reading
result m (refuse n left) = refused n (place m left)
result m (taken r) = accepted r

-- "1 first, then line by line"; "for 1 the number 4,096"
unfoldable pub reading : List ℕ → Reading
reading m = cond (leb (length m) longest) (result m (read_notice (cuts m))) (refused too_long longest)
