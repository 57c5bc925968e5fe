-- One turn of the loops that put numbers, and what is sent.
use Rattle.std.proofs.Common.{ℕ, zero, suc, ◌+◌, ◌<◌, ◌≤◌, ◌≡◌, refl, sym, ap, ◌∙◌, subst, List, [], ◌∷◌, ◌++◌, map, true, false, leb, length, drop, take, get_or, append-nil, append_assoc, take_all, length-take-le, leb-true, Ok, Err, add-one, arith}
use Rattle.std.proofs.Math.Seq.{take-suc}
use mathlib.Core.List.{map-append}
use Rattle.text.specs.declared.refusal.Refusal.{Refusal}
use Rattle.text.specs.Choice.{◌and◌, all}
use Rattle.text.specs.Put.{Put}
use Rattle.text.specs.Refusals.{number, radio_value, invalid_row, buffer_too_short}
use Rattle.text.specs.Laws.Base.{and-1, and-2, and_i}
use Rattle.text.specs.Laws.Arrays.{all_in}
use Rattle.text.specs.Laws.Put.{more, whole-put}
use Rattle.row.specs.declared.Row.{Row}
use Rattle.row.specs.Row.{valid_row}
use Rattle.body.specs.declared.Rows.{Rows}
use Rattle.body.specs.Rows.{most_rows, rows_of, new_runways}
use Rattle.radio.specs.declared.Field.{Field}
use Rattle.radio.specs.Outcome.{refuse, taken, need}
use Rattle.radio.specs.Number.{number_bytes}
use Rattle.radio.specs.Fields.{order, number_of, may_be}
use Rattle.radio.specs.Record.{each, row_bytes, is_count, radio_record, sendable, write_record}
use Rattle.radio.specs.Answers.{sending, written, filled, WroteRadio}
use Rattle.radio.specs.Laws.Fields.{Filled, full, one, may-small, own-numbers}
use Rattle.radio.specs.Laws.Record.{each_append, record_is}
use Rattle.text.specs.Code.Writes.{as_written}
use Rattle.radio.proofs.Rows.{Here}

-- behind the end there is nothing
past_end : {A C : Type 0} (i : ℕ) (a : A) (k : List A) → drop i [] ≡ a ∷ k → C
past_end zero a k e = let z : ◌≡◌ {A = ℕ} 0 1 = cc in absurd (omega arith)
past_end (suc i) a k e = let z : ◌≡◌ {A = ℕ} 0 1 = cc in absurd (omega arith)

-- a row's own numbers may all stand where they do
filled-may : {fs : List Field} {r q : Row} {xs : List ℕ} (g : Field → ℕ) → Filled fs r xs q → xs ≡ map g fs → (i : ℕ) (f : Field) (k : List Field) → drop i fs ≡ f ∷ k → may_be f (g f) ≡ true
filled-may g (full e) w i f k h = past_end i f k h
filled-may g (one {f = e} {x = x} may rest) w zero f k h =
    let z : e ≡ f = cc in
    let y : x ≡ g e = cc in
    subst (λ a. may_be a (g a) ≡ true) z (subst (λ a. may_be e a ≡ true) y may)
filled-may {fs = e ∷ fs} {xs = x ∷ xs} g (one may rest) w (suc i) f k h = let z : xs ≡ map g fs = cc in filled-may g rest z i f k h

-- so each has at most three groups
pub number_small : (r : Row) → valid_row r ≡ true → (i : ℕ) {f : Field} → Here i f → number_of r f < 2097152
number_small r v i {f} h = may-small f (number_of r f) (filled-may (number_of r) (own-numbers r v) refl i f (drop (i + 1) order) h)

-- what f makes of each, and of one more
each-more : {A B : Type 0} (f : A → List B) (xs : List A) (i : ℕ) (d : A) → i < length xs → each f (take (i + 1) xs) ≡ each f (take i xs) ++ f (get_or xs i d)
unfolding each
each-more f xs i d h = rw (add-one, take-suc xs i d h, each_append, append-nil)

numbers-more : (row : Row) (fs : List Field) (i : ℕ) (d : Field) → i < length fs
    → each number_bytes (map (number_of row) (take (i + 1) fs)) ≡ each number_bytes (map (number_of row) (take i fs)) ++ number_bytes (number_of row (get_or fs i d))
unfolding each
numbers-more row fs i d h = rw (add-one, take-suc fs i d h, map-append, each_append, append-nil)

-- the numbers of the first i fields are put
abbrev pub PutFields : Row → ℕ → ℕ → List ℕ → List ℕ → ℕ → Type 0
PutFields row i at before after r = Put at (each number_bytes (map (number_of row) (take i order))) before after r

pub field_put : (row : Row) (i : ℕ) (d : Field) → i < 15 → {x at b r : ℕ} {before now after : List ℕ} → x ≡ number_of row (get_or order i d)
    → PutFields row i at before now b → Put b (number_bytes x) now after r → PutFields row (i + 1) at before after r
field_put row i d h {x} {at} {b} {r} {before} {now} {after} e p q =
    subst (λ t. Put at t before after r) (sym (numbers-more row order i d h)) (more p (rw e at q))

-- the rows of a record
module _ (rows : List Row) (s : sendable rows ≡ true) where
  all-valid : all valid_row rows ≡ true
  unfolding sendable
  all-valid = and-1 _ _ (and-2 _ _ s)

  pub few_rows : length rows ≤ most_rows
  unfolding sendable
  few_rows = leb-true (length rows) most_rows (and-2 _ _ (and-1 _ _ s))

  -- each of them is valid
  pub valid-here : (k : ℕ) (d : Row) → k < length rows → valid_row (get_or rows k d) ≡ true
  valid-here k d h = all_in valid_row d rows k all-valid h

-- the count and the first k rows are put
abbrev pub PutRows : List Row → ℕ → List ℕ → List ℕ → ℕ → Type 0
PutRows rows k before after n = Put 0 (number_bytes (length rows) ++ each row_bytes (take k rows)) before after n

module _ (rows : List Row) where
  pub count-put : {n : ℕ} {before after : List ℕ} → Put 0 (number_bytes (length rows)) before after n → PutRows rows 0 before after n
  unfolding each
  count-put p = rw append-nil p

  pub row_put : (k : ℕ) (d : Row) → k < length rows → {b n : ℕ} {before now after : List ℕ} → PutRows rows k before now b
      → Put b (row_bytes (get_or rows k d)) now after n → PutRows rows (k + 1) before after n
  row_put k d h p q = rw (each-more row_bytes rows k d h, ← append_assoc) (more p q)

  pub rows-put : {k n : ℕ} {before after : List ℕ} → length rows ≤ k → PutRows rows k before after n → Put 0 (radio_record rows) before after n
  rows-put {k} h p = rw record_is (rw (take_all k rows h) at p)

-- what is sent
module _ (r : Rows) (long : length r.rows ≡ most_rows) where
  pub send-no-count : is_count r.count ≡ false → (room : ℕ) → sending room r ≡ refuse radio_value
  unfolding sending
  send-no-count h room = rw h

  module _ {rows : List Row} (shown : rows ≡ rows_of r) (h : is_count r.count ≡ true) where
    counted : is_count (length (rows_of r)) ≡ true
    unfolding ◌and◌
    counted =
        let few : r.count ≤ most_rows = leb-true r.count most_rows (and-2 (leb 1 r.count) _ h) in
        let c = length-take-le r.count r.rows (omega (arith, long)) in
        rw c h

    send-on : (room : ℕ) → sending room r ≡ write_record room (rows_of r)
    unfolding sending
    send-on room = rw h

    pub send-invalid : all valid_row rows ≡ false → (room : ℕ) → sending room r ≡ refuse invalid_row
    unfolding write_record
    send-invalid v room = send-on room ∙ rw (counted, rw shown at v)

    module _ (v : all valid_row rows ≡ true) where
      pub send-twice : new_runways [] rows ≡ false → (room : ℕ) → sending room r ≡ refuse radio_value
      unfolding write_record
      send-twice w room = send-on room ∙ rw (counted, rw shown at v, rw shown at w)

      module _ (w : new_runways [] rows ≡ true) where
        pub sends : sendable rows ≡ true
        unfolding sendable
        sends = rw shown (and_i counted (and_i (rw shown at v) (rw shown at w)))

        judged : (room : ℕ) → sending room r ≡ need buffer_too_short (leb (length (radio_record rows)) room) (taken (radio_record rows))
        unfolding write_record
        judged room = send-on room ∙ rw (counted, rw shown at v, rw shown at w, shown)

        pub send-short : (room : ℕ) → leb (length (radio_record rows)) room ≡ false → sending room r ≡ refuse buffer_too_short
        send-short room f = judged room ∙ rw f

        pub send-all : (room : ℕ) → leb (length (radio_record rows)) room ≡ true → sending room r ≡ taken (radio_record rows)
        send-all room f = judged room ∙ rw f

-- a refused writing
pub not-sent : {r : Rows} {b : List ℕ} (e : Refusal) → sending (length b) r ≡ refuse (number e) → WroteRadio r b b (as_written (Err e))
not-sent {b = b} e h = record { answers = sym (ap written h); holds = sym (ap (λ o. filled o b) h) }

-- and a record that is put
pub sent : {r : Rows} {b x m : List ℕ} {n : ℕ} → sending (length b) r ≡ taken m → leb (length m) (length b) ≡ true → Put 0 m b x n → WroteRadio r b x (as_written (Ok n))
sent {b = b} {m = m} e f p =
    let w = whole-put p (leb-true (length m) (length b) f) in
    record { answers = ap (λ k. record { refusal = 0; length = k }) w.0 ∙ sym (ap written e); holds = w.1 ∙ sym (ap (λ o. filled o b) e) }
