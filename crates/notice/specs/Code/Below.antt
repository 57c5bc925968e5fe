-- What is read below the front, and how the code answers it.
use Rattle.std.specs.Prelude.{ℕ, ◌≡◌, List, [], cond, eqb, Result, Ok, Err, MatchResult}
use Rattle.text.specs.Lines.{Cut, onward, cuts}
use Rattle.text.specs.Out.{Out, taken, place, next}
use Rattle.text.specs.Refusals.{number, serials_differ, aerodromes_differ}
use Rattle.text.specs.declared.refusal.Refusal.{Refusal}
use Rattle.text.specs.declared.refusal.Fault.{Fault}
use Rattle.body.specs.Rows.{most_rows, read_rows}
use Rattle.remarks.specs.Remarks.{read_remarks}
use Rattle.remarks.specs.Code.Held.{answered}
use Rattle.front.specs.Places.{time_on, serial_on}
use Rattle.front.specs.Code.Front.{heading_of, front_count, Opening, unopened, fill_lines}
use Rattle.record.specs.declared.Record.{Record}
use Rattle.record.specs.declared.Reading.{Reading}
use Rattle.record.specs.Record.{make_record}
use Rattle.record.specs.Answer.{accepted, refused}
use Rattle.notice.specs.Reading.{agreeing, reading}

-- what is read below the front, and whether it agrees with it
unfoldable pub read_below : Opening → List Cut → Out Record
read_below o cs =
    let f = o.front in
    next (read_rows most_rows [] cs) (λ block.
    next (read_remarks block.after) (λ remarks.
    agreeing (heading_of f) o.third f.serial o.fourth f.aerodrome o.fifth block.rows
    (make_record f.addresses f.filing f.title block.rows remarks)))

-- the front of the message m is read
pub record Opened (m : List ℕ) : Type 0 where
  pub opening : Opening
  pub below : List Cut
  pub says : fill_lines front_count 0 unopened (cuts m) ≡ taken (opening, below)

-- what is left where lines that disagree are told to be wrong: by 10, 11 or 12
unfoldable pub disagree_on : ℕ → Opening → List ℕ
disagree_on n o = cond (eqb n serials_differ) (serial_on o.fourth) (cond (eqb n aerodromes_differ) (onward o.fifth) (time_on o.third))

-- and its place, told by this answer
abbrev pub DisagreesAt : List ℕ → Refusal → ℕ → Type 0
DisagreesAt m n r = (o : Opened m) → r ≡ place m (disagree_on (number n) o.opening)

-- the answer to a message whose record was read, or refused by this fault
abbrev pub answer : Result Record Fault → Reading
answer (Ok r) = accepted r
answer (Err f) = refused (number f.refusal) f.place

-- the record of the message m is filled in, and the answer r tells whether it was read; where it was refused, the record is as it was
abbrev pub FillsRecord : List ℕ → Record → Record → Result (Unit {0}) Fault → Type 0
FillsRecord m old new r = (answer (answered new r) ≡ reading m) × MatchResult r (λ _. Unit {0}) (λ _. new ≡ old)
