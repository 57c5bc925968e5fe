-- One turn of the loop over the fields, and of the loop over the rows.
use Rattle.std.proofs.Common.{ℕ, suc, ◌+◌, ◌-◌, ◌<◌, ◌≤◌, ◌≡◌, refl, sym, ap, ◌∙◌, subst, List, [], ◌∷◌, ◌++◌, true, false, not, Result, Ok, Err, length, drop, take, get_or, set, length-drop, drop_of_length-le, arith}
use Rattle.std.proofs.Math.Seq.{drop-drop}
use Rattle.text.specs.declared.refusal.Refusal.{Refusal}
use Rattle.text.specs.declared.refusal.Refusal.TheVariants.{RadioValue}
use Rattle.text.specs.Refusals.{number, radio_value}
use Rattle.text.specs.Choice.{is_empty}
use Rattle.text.specs.Laws.Arrays.{next_place}
use Rattle.text.specs.Laws.Held.{part-all}
use Rattle.row.specs.declared.Row.{Row}
use Rattle.row.specs.Row.{blank_row, valid_row}
use Rattle.body.specs.declared.Rows.{Rows}
use Rattle.body.specs.Rows.{most_rows, make_rows, is_among}
use Rattle.body.specs.Code.Held.{Kept}
use Rattle.body.specs.Laws.Kept.{held, grown-rows, grown, none_kept}
use Rattle.radio.specs.declared.Field.{Field}
use Rattle.text.specs.declared.Found.{Found}
use Rattle.radio.specs.declared.RowFound.{RowFound}
use Rattle.radio.specs.Outcome.{Outcome, refuse, taken, next, need}
use Rattle.radio.specs.Number.{Part, part, read_number}
use Rattle.radio.specs.Fields.{order, may_be, fill, read_fields}
use Rattle.radio.specs.Record.{is_count, read_row, read_rows, read_record}
use Rattle.radio.specs.Answers.{refused, answer, radio_reading}
use Rattle.radio.specs.Code.Held.{Held, HeldNumber, HeldRow}

-- the part of m from `at` on
abbrev part_at : List ℕ → ℕ → List ℕ
part_at m at = take (length m - at) (drop at m)

-- what is read in it is read in m from there on
module _ {A R : Type 0} {value : R → A} {behind : R → ℕ} (read : List ℕ → Outcome (Part A)) (m : List ℕ) (at : ℕ) where
  there : (r : Result R Refusal) → Held value behind (part_at m at) (read (part_at m at)) r → Held value behind (drop at m) (read (drop at m)) r
  there r h = subst (λ l. Held value behind l (read l) r) (part-all at m) h

  pub found_within : {r : R} → Held value behind (part_at m at) (read (part_at m at)) (Ok r) → at ≤ length m → at + behind r ≤ length m
  found_within {r} h w = let u = rw length-drop at (there (Ok r) h).within in omega arith

  found : {r : R} → Held value behind (part_at m at) (read (part_at m at)) (Ok r) → read (drop at m) ≡ taken (part (value r) (drop (at + behind r) m))
  found {r} h = (there (Ok r) h).says ∙ rw (drop-drop (behind r) at m)

  not_found : {e : Refusal} → Held value behind (part_at m at) (read (part_at m at)) (Err e) → read (drop at m) ≡ refuse (number e)
  not_found {e} h = (there (Err e) h).says

-- the fields from the i-th on are read into a row from `at` on as all of them from the start
pub record Going (m : List ℕ) (at i : ℕ) (row : Row) : Type 0 where
  pub inside : at ≤ length m
  pub left : read_fields (drop i order) row (drop at m) ≡ read_fields order blank_row m

pub started : (m : List ℕ) {row : Row} → row ≡ blank_row → Going m 0 0 row
started m e = record { inside = omega arith; left = ap (λ (r : Row). read_fields order r m) e }

-- the next field is f
abbrev pub Here : ℕ → Field → Type 0
Here i f = drop i order ≡ f ∷ drop (i + 1) order

pub here-at : (d : Field) (i : ℕ) → i < 15 → Here i (get_or order i d)
here-at d i h = next_place d order i h

field_step : (i : ℕ) (f : Field) (row : Row) (m : List ℕ) → Here i f
    → read_fields (drop i order) row m ≡ next (read_number m) (λ p. need radio_value (may_be f p.value) (read_fields (drop (i + 1) order) (fill row f p.value) p.rest))
unfolding read_fields
field_step i f row m e = ap (λ fs. read_fields fs row m) e

-- a row that is refused
refused-row : (m : List ℕ) (e : Refusal) → read_row m ≡ refuse (number e) → HeldRow m (read_row m) (Err e)
refused-row m e h = record { within = omega arith; says = h }

module _ {m : List ℕ} {at i : ℕ} {row : Row} (going : Going m at i row) where
  step_is : (f : Field) → Here i f → read_fields order blank_row m
      ≡ next (read_number (drop at m)) (λ p. need radio_value (may_be f p.value) (read_fields (drop (i + 1) order) (fill row f p.value) p.rest))
  step_is f here = sym going.left ∙ field_step i f row (drop at m) here

  -- the number is refused
  pub row-off : {f : Field} → Here i f → {e : Refusal} → HeldNumber (part_at m at) (read_number (part_at m at)) (Err e) → HeldRow m (read_row m) (Err e)
  row-off {f} here {e} h =
      let k : read_fields order blank_row m ≡ refuse (number e) = step_is f here ∙ rw (not_found read_number m at h) in
      refused-row m e (rw k)

  module _ {f : Field} (here : Here i f) {n : Found} (h : HeldNumber (part_at m at) (read_number (part_at m at)) (Ok n)) where
    -- it may not stand there
    pub row-bad : may_be f n.value ≡ false → HeldRow m (read_row m) (Err RadioValue)
    row-bad b =
        let k : read_fields order blank_row m ≡ refuse radio_value = step_is f here ∙ rw (found read_number m at h, b) in
        refused-row m RadioValue (rw k)

    -- the row goes on
    pub row_on : may_be f n.value ≡ true → {row' : Row} → row' ≡ fill row f n.value → Going m (at + n.next) (i + 1) row'
    row_on b q = record {
      inside = found_within read_number m at h going.inside;
      left = rw q (sym (step_is f here ∙ rw (found read_number m at h, b)));
    }

  -- behind the last field: the row is judged
  module _ (all_read : i ≡ 15) where
    read_all : read_fields order blank_row m ≡ taken (part row (drop at m))
    unfolding read_fields
    read_all = sym (rw all_read at going.left)

    pub row-valid : valid_row row ≡ true → HeldRow m (read_row m) (Ok (record { row = row; next = at }))
    row-valid v = record { within = going.inside; says = rw (read_all, v) }

    pub row-invalid : valid_row row ≡ false → HeldRow m (read_row m) (Err RadioValue)
    row-invalid v = refused-row m RadioValue (rw (read_all, v))

-- the rows so far, and what is read from here on, are what the whole is
pub record SoFar (m : List ℕ) (n : ℕ) (rows : List Row) (k at : ℕ) : Type 0 where
  pub kept : Kept (held k rows)
  pub inside : at ≤ length m
  pub left : read_rows n [] m ≡ read_rows (n - k) (take k rows) (drop at m)

pub begun : (m : List ℕ) (n : ℕ) → SoFar m n (make_rows []).rows 0 0
begun m n = let z : n - 0 ≡ n = omega arith in record { kept = none_kept; inside = omega arith; left = rw z }

module _ {m : List ℕ} {n : ℕ} {rows : List Row} {k at : ℕ} (s : SoFar m n rows k at) where
  -- one row more
  module _ (f : k < n) where
    row_step : read_rows n [] m
        ≡ next (read_row (drop at m)) (λ p. need radio_value (not (is_among p.value (take k rows))) (read_rows (n - (k + 1)) (take k rows ++ (p.value ∷ [])) p.rest))
    unfolding read_rows
    row_step = let z : n - k ≡ suc (n - (k + 1)) = omega arith in s.left ∙ rw z

    pub rows-off : {e : Refusal} → HeldRow (part_at m at) (read_row (part_at m at)) (Err e) → read_rows n [] m ≡ refuse (number e)
    rows-off h = row_step ∙ rw (not_found read_row m at h)

    module _ {r : RowFound} (h : HeldRow (part_at m at) (read_row (part_at m at)) (Ok r)) where
      row_here : read_row (drop at m) ≡ taken (part r.row (drop (at + r.next) m))
      row_here = found read_row m at h

      pub rows-twice : is_among r.row (take k rows) ≡ true → read_rows n [] m ≡ refuse radio_value
      rows-twice b = row_step ∙ rw (row_here, b)

      pub rows_on : n ≤ most_rows → is_among r.row (take k rows) ≡ false → SoFar m n (set rows k r.row) (k + 1) (at + r.next)
      rows_on e b =
          let g = grown-rows s.kept r.row (omega arith) in
          record { kept = grown s.kept r.row (omega arith); inside = found_within read_row m at h s.inside; left = row_step ∙ rw (row_here, b, g) }

  -- no row more
  module _ (all_read : k ≡ n) where
    rows_end : read_rows n [] m ≡ need radio_value (is_empty (drop at m)) (taken (take k rows))
    unfolding read_rows
    rows_end = let z : n - k ≡ 0 = omega arith in s.left ∙ rw z

    some_left : (l : List ℕ) → 0 < length l → is_empty l ≡ false
    some_left [] e = absurd (omega arith)
    some_left (x ∷ l) e = refl

    pub rows-over : at < length m → read_rows n [] m ≡ refuse radio_value
    rows-over e = rows_end ∙ rw (some_left (drop at m) (omega (arith, length-drop at m)))

    pub rows-done : length m ≤ at → answer (read_rows n [] m) ≡ record { refusal = 0; rows = held n rows }
    rows-done e =
        let w : read_rows n [] m ≡ taken (take k rows) = rows_end ∙ rw (drop_of_length-le m e) in
        ap answer w ∙ ap (λ (q : Rows). record { refusal = 0; rows = q }) (sym s.kept.zeros ∙ ap (λ i. held i rows) all_read)

-- the count, and what is read behind it
module _ (m : List ℕ) where
  pub record-off : {e : Refusal} → HeldNumber m (read_number m) (Err e) → radio_reading m ≡ refused (number e)
  unfolding radio_reading read_record
  record-off h = rw h.says

  module _ {n : Found} (h : HeldNumber m (read_number m) (Ok n)) where
    count-here : read_record m ≡ need radio_value (is_count n.value) (read_rows n.value [] (drop n.next m))
    unfolding read_record
    count-here = rw h.says

    pub record-odd : is_count n.value ≡ false → radio_reading m ≡ refused radio_value
    unfolding radio_reading
    record-odd k = rw (count-here, k)

    pub record-on : is_count n.value ≡ true → radio_reading m ≡ answer (read_rows n.value [] (take (length m - n.next) (drop n.next m)))
    unfolding radio_reading
    record-on k = rw (count-here, k, part-all n.next m)
