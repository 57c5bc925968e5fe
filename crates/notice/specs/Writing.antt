-- Writing a record: "13, 14: record invalid; buffer shorter than the text", and when two messages tell the same.
use Rattle.std.specs.Prelude.{ℕ, ◌≡◌, [], ◌∷◌, List, ◌++◌, leb, length, drop, Bool, cond}
use Rattle.text.specs.Choice.{◌else◌, first_failing}
use Rattle.record.specs.declared.Record.{Record}
use Rattle.text.specs.declared.Written.{Written}
use Rattle.record.specs.Record.{valid_record}
use Rattle.record.specs.Notice.{notice_text_at, notice_text}
use Rattle.text.specs.Refusals.{invalid_record, buffer_too_short}

-- "Refused writing reports length 0"
abbrev pub unwritten : ℕ → Written
unwritten n = record { refusal = n; length = 0 }

-- "13, 14": the answer where a record is valid or not, to its text and a buffer with room for so many bytes
abbrev pub writing_text : Bool → List ℕ → ℕ → Written
writing_text valid text room =
    first_failing (
    valid else unwritten invalid_record
    ∷ leb (length text) room else unwritten buffer_too_short
    ∷ []) (record { refusal = 0; length = length text })

-- "Accepted writing fills exactly the text's length; later bytes stay"; a refused one touches no byte
abbrev pub written_text : Bool → List ℕ → List ℕ → List ℕ
written_text valid text buffer =
    cond valid
    (cond (leb (length text) (length buffer)) (text ++ drop (length text) buffer) buffer)
    buffer

-- the answer to a record
unfoldable pub writing : Record → ℕ → Written
writing r room = writing_text (valid_record r) (notice_text r) room

-- the buffer afterwards
unfoldable pub written : Record → List ℕ → List ℕ
written r buffer = written_text (valid_record r) (notice_text r) buffer

-- what a writing promises
pub record Wrote (r : Record) (before after : List ℕ) (w : Written) : Type 0 where
  pub answer : w ≡ writing r (length before)
  pub holds : after ≡ written r before

-- what a writing with this time in the heading promises
pub record WroteAt (time : ℕ) (r : Record) (before after : List ℕ) (w : Written) : Type 0 where
  pub answer : w ≡ writing_text (valid_record r) (notice_text_at time r) (length before)
  pub holds : after ≡ written_text (valid_record r) (notice_text_at time r) before
