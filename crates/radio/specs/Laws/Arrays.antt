-- A list that has a record is what a notice may have as its rows, held in an array.
use Rattle.std.specs.Prelude.{ℕ, ◌≡◌, refl, List, [], ◌∷◌, true, false, leb, length}
use Rattle.std.proofs.Common.{leb-true, le-leb, arith}
use Rattle.text.specs.Choice.{all, is_empty}
use Rattle.radio.specs.Outcome.{taken}
use Rattle.text.specs.Laws.Base.{and-1, and-2, and_i, true-false}
use Rattle.row.specs.declared.Row.{Row}
use Rattle.body.specs.declared.Rows.{Rows}
use Rattle.body.specs.Rows.{most_rows, rows_of, make_rows, valid_rows}
use Rattle.body.specs.Laws.Parts.{GoodRows, rows-kept, rows-valid, rows_made, rows-good}
use Rattle.radio.specs.Number.{is_byte}
use Rattle.radio.specs.Record.{radio_record, sendable, read_record}
use Rattle.radio.specs.Laws.Record.{record-back, record-sound}

some-rows : {A : Type 0} (l : List A) → leb 1 (length l) ≡ true → is_empty l ≡ false
some-rows [] h = let k = leb-true 1 0 h in absurd (omega arith)
some-rows (a ∷ l) h = refl

rows-some : {A : Type 0} (l : List A) → is_empty l ≡ false → leb 1 (length l) ≡ true
rows-some [] h = true-false h
rows-some (a ∷ l) h = le-leb 1 (length (a ∷ l)) (omega arith)

pub send-good : (rs : List Row) → sendable rs ≡ true → GoodRows rs
unfolding sendable
send-good rs h = record {
  valid = and-1 _ _ (and-2 _ _ h);
  other = and-2 _ _ (and-2 _ _ h);
  few = leb-true (length rs) most_rows (and-2 _ _ (and-1 _ _ h));
  some = some-rows rs (and-1 _ _ (and-1 _ _ h));
}

pub good-send : (rs : List Row) → GoodRows rs → sendable rs ≡ true
unfolding sendable
good-send rs g = and_i (and_i (rows-some rs g.some) (le-leb (length rs) most_rows g.few)) (and_i g.valid g.other)

-- the rows of a notice are sent and read back
pub array_back : (r : Rows) → valid_rows r ≡ true → (read_record (radio_record (rows_of r)) ≡ taken (rows_of r)) × (make_rows (rows_of r) ≡ r)
array_back r h = (record-back (rows_of r) (good-send (rows_of r) (rows-good r h)), rows_made r h)

-- and what is read may stand in one
pub array-sound : (m : List ℕ) (rs : List Row) → all is_byte m ≡ true → read_record m ≡ taken rs → (valid_rows (make_rows rs) ≡ true) × (rows_of (make_rows rs) ≡ rs)
array-sound m rs b e = let g = send-good rs (record-sound m rs b e).0 in (rows-valid rs g, rows-kept rs g)
