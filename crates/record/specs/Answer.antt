-- The answer to a message: taken, or refused by number at a place with the blank record.
use Rattle.std.specs.Prelude.{ℕ}
use Rattle.record.specs.declared.Record.{Record}
use Rattle.record.specs.declared.Reading.{Reading}
use Rattle.record.specs.Record.{blank_record}

-- the answer to a message that is taken
abbrev pub accepted : Record → Reading
accepted r = record { refusal = 0; place = 0; «record» = r }

-- the answer to one that is refused: its number, its place and the blank record
abbrev pub refused : ℕ → ℕ → Reading
refused n at = record { refusal = n; place = at; «record» = blank_record }
