-- A valid list is read back from its record, and only its record is read as it.
use Rattle.std.specs.Prelude.{ℕ, zero, suc, ◌≡◌, refl, List, [], ◌∷◌, ◌++◌, true, not, length}
use Rattle.std.proofs.Common.{sym, ap, ap₂, ◌∙◌, subst, append_assoc, append-nil, leb-true, arith}
use Rattle.text.specs.Choice.{all, ◌and◌, is_empty}
use Rattle.radio.specs.Outcome.{taken}
use Rattle.text.specs.Laws.Base.{and-1, and-2, and_i, true-false}
use Rattle.radio.specs.Laws.Outcome.{took, next-took, need-took}
use Rattle.row.specs.declared.Row.{Row}
use Rattle.row.specs.Row.{blank_row, valid_row}
use Rattle.body.specs.Rows.{most_rows, is_among, new_runways}
use Rattle.radio.specs.Number.{Part, part, is_byte, number_bytes, read_number}
use Rattle.radio.specs.Fields.{order, row_numbers, read_fields}
use Rattle.radio.specs.Record.{each, row_bytes, list_numbers, radio_record, is_count, sendable, read_row, read_rows, read_record}
use Rattle.radio.specs.Laws.Number.{groups-back, groups-sound}
use Rattle.radio.specs.Laws.Fields.{fields_back, fields-sound, filled-numbers, own-numbers}

pub each_append : {A B : Type 0} (f : A → List B) (xs ys : List A) → each f (xs ++ ys) ≡ each f xs ++ each f ys
unfolding each
each_append f [] ys = refl
each_append f (x ∷ xs) ys = ap (λ k. f x ++ k) (each_append f xs ys) ∙ sym (append_assoc (f x) (each f xs) (each f ys))

pub rows-bytes : (rows : List Row) → each number_bytes (each row_numbers rows) ≡ each row_bytes rows
unfolding each
rows-bytes [] = refl
rows-bytes (r ∷ rows) = each_append number_bytes (row_numbers r) (each row_numbers rows) ∙ ap (λ k. row_bytes r ++ k) (rows-bytes rows)

-- a row
pub row_back : (r : Row) (m : List ℕ) → valid_row r ≡ true → read_row (row_bytes r ++ m) ≡ taken (part r m)
row_back r m h = rw (fields_back (own-numbers r h) m, h)

pub record ReadRow (m : List ℕ) (p : Part Row) : Type 0 where
  pub valid : valid_row p.value ≡ true
  pub is : m ≡ row_bytes p.value ++ p.rest
  pub bytes : all is_byte p.rest ≡ true

pub row-sound : (m : List ℕ) (p : Part Row) → all is_byte m ≡ true → read_row m ≡ taken p → ReadRow m p
row-sound m p b e =
    let w = next-took (read_fields order blank_row m) e in
    let g = need-took 32 (valid_row w.val.value) w.two in
    let f = fields-sound order blank_row m w.val b w.one in
    took (ReadRow m) g.1 (record {
      valid = g.0;
      is = f.is ∙ ap (λ xs. each number_bytes xs ++ w.val.rest) (sym (filled-numbers f.filled));
      bytes = f.bytes;
    })

-- rows
pub rows_back : (rows seen : List Row) → all valid_row rows ≡ true → new_runways seen rows ≡ true → read_rows (length rows) seen (each row_bytes rows) ≡ taken (seen ++ rows)
unfolding read_rows each new_runways
rows_back [] seen v w = ap taken (sym (append-nil seen))
rows_back (r ∷ rows) seen v w =
    rw (row_back r (each row_bytes rows) (and-1 _ _ v), and-1 _ _ w)
    (rows_back rows (seen ++ (r ∷ [])) (and-2 _ _ v) (and-2 _ _ w) ∙ ap taken (append_assoc seen (r ∷ []) rows))

pub record Rows (n : ℕ) (seen : List Row) (m : List ℕ) (rows : List Row) : Type 0 where
  pub new : List Row
  pub is : rows ≡ seen ++ new
  pub count : length new ≡ n
  pub valid : all valid_row new ≡ true
  pub other : new_runways seen new ≡ true
  pub written : m ≡ each row_bytes new

empty : (m : List ℕ) → is_empty m ≡ true → m ≡ []
empty [] h = refl
empty (x ∷ m) h = true-false (sym h)

pub rows-sound : (n : ℕ) (seen : List Row) (m : List ℕ) (rows : List Row) → all is_byte m ≡ true → read_rows n seen m ≡ taken rows → Rows n seen m rows
unfolding read_rows each new_runways
rows-sound zero seen m rows b e =
    let g = need-took 32 (is_empty m) e in
    took (Rows 0 seen m) g.1 (record { new = []; is = sym (append-nil seen); count = refl; valid = refl; other = refl; written = empty m g.0 })
rows-sound (suc n) seen m rows b e =
    let w = next-took (read_row m) e in
    let r = w.val.value in
    let s = row-sound m w.val b w.one in
    let g = need-took 32 (not (is_among r seen)) w.two in
    let i = rows-sound n (seen ++ (r ∷ [])) w.val.rest rows s.bytes g.1 in
    record {
      new = r ∷ i.new;
      is = i.is ∙ append_assoc seen (r ∷ []) i.new;
      count = ap suc i.count;
      valid = and_i s.valid i.valid;
      other = and_i g.0 i.other;
      written = s.is ∙ ap (λ k. row_bytes r ++ k) i.written;
    }

-- the count and the rows
pub record_is : (rows : List Row) → radio_record rows ≡ number_bytes (length rows) ++ each row_bytes rows
unfolding radio_record list_numbers each
record_is rows = ap (λ k. number_bytes (length rows) ++ k) (rows-bytes rows)

pub record-back : (rows : List Row) → sendable rows ≡ true → read_record (radio_record rows) ≡ taken rows
unfolding read_record sendable
record-back rows h =
    let c = and-1 _ _ h in
    let k = leb-true (length rows) most_rows (and-2 _ _ c) in
    rw (record_is rows, groups-back 2 0 (length rows) (each row_bytes rows) (omega arith) (omega arith), c) (rows_back rows [] (and-1 _ _ (and-2 _ _ h)) (and-2 _ _ (and-2 _ _ h)))

pub record-sound : (m : List ℕ) (rows : List Row) → all is_byte m ≡ true → read_record m ≡ taken rows → (sendable rows ≡ true) × (m ≡ radio_record rows)
unfolding read_record sendable
record-sound m rows b e =
    let w = next-took (read_number m) e in
    let n = w.val.value in
    let s = groups-sound 2 0 m n w.val.rest (omega arith) b w.one in
    let g = need-took 32 (is_count n) w.two in
    let i = rows-sound n [] w.val.rest rows s.bytes g.1 in
    let c : length rows ≡ n = ap length i.is ∙ i.count in (
      subst (λ l. (is_count (length l) and all valid_row l and new_runways [] l) ≡ true) (sym i.is) (and_i (subst (λ k. is_count k ≡ true) (sym i.count) g.0) (and_i i.valid i.other)),
      s.is ∙ (ap₂ (λ k l. number_bytes k ++ l) (sym c) (i.written ∙ ap (each row_bytes) (sym i.is)) ∙ sym (record_is rows)),
    )
