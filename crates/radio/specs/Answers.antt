-- What reading and writing answer.
use Rattle.std.specs.Prelude.{ℕ, ◌≡◌, List, [], ◌++◌, length, drop}
use Rattle.text.specs.declared.Written.{Written}
use Rattle.text.specs.Refusals.{radio_value}
use Rattle.row.specs.declared.Row.{Row}
use Rattle.body.specs.declared.Rows.{Rows}
use Rattle.body.specs.Rows.{rows_of, make_rows}
use Rattle.radio.specs.declared.Radio.{Radio}
use Rattle.radio.specs.Outcome.{Outcome, refuse, taken, need}
use Rattle.radio.specs.Record.{is_count, read_record, write_record}

-- "A refused reading gives no rows"
abbrev pub refused : ℕ → Radio
refused n = record { refusal = n; rows = make_rows [] }

-- rows that were read, zeros past their count
abbrev pub answer : Outcome (List Row) → Radio
answer (refuse n) = refused n
answer (taken rows) = record { refusal = 0; rows = make_rows rows }

-- the answer to a record
unfoldable pub radio_reading : List ℕ → Radio
radio_reading m = answer (read_record m)

-- the record of rows in their array, whose count may be over eight, for a buffer with room for so many bytes
unfoldable pub sending : ℕ → Rows → Outcome (List ℕ)
sending room r = need radio_value (is_count r.count) (write_record room (rows_of r))

-- a refused writing answers length 0
abbrev pub unwritten : ℕ → Written
unwritten n = record { refusal = n; length = 0 }

-- the answer to what is sent
abbrev pub written : Outcome (List ℕ) → Written
written (refuse n) = unwritten n
written (taken m) = record { refusal = 0; length = length m }

-- the buffer afterwards: the record and the bytes behind it, or, where it is refused, as it was
abbrev pub filled : Outcome (List ℕ) → List ℕ → List ℕ
filled (refuse n) buffer = buffer
filled (taken m) buffer = m ++ drop (length m) buffer

-- what a writing promises
pub record WroteRadio (r : Rows) (before after : List ℕ) (w : Written) : Type 0 where
  pub answers : w ≡ written (sending (length before) r)
  pub holds : after ≡ filled (sending (length before) r) before
