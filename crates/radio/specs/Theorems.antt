-- Request 7: reading and writing undo each other, and one list of rows has one record.
use Rattle.std.specs.Prelude.{ℕ, ◌<◌, ◌≤◌, ◌≡◌, Bool, ◌↔◌, eqb}
use Rattle.std.proofs.Math.Path.{refl, ap}
use Rattle.std.proofs.Common.{sym, ◌∙◌, subst, arith}
use mathlib.Core.List.{List, [], ◌∷◌, ◌++◌, append-nil}
use Rattle.std.proofs.Math.Bool.{true, false}
use Rattle.std.proofs.Math.Dec.{leb}
use Rattle.std.proofs.Math.ListN.{length, take, drop}
use borrow.Author.Tests.{leb-true, leb-false, le-leb, eqb-true, eqb-false}
use Rattle.text.specs.declared.Written.{Written}
use Rattle.text.specs.Choice.{all}
use Rattle.text.specs.Refusals.{radio_value, invalid_row, buffer_too_short}
use Rattle.text.specs.Laws.Arrays.{take-front}
use Rattle.radio.specs.Outcome.{Outcome, refuse, taken, need}
use Rattle.text.specs.Laws.Base.{and-1, and-2, and_i}
use Rattle.radio.specs.Laws.Outcome.{no-refuse, took, need-took, need-refused}
use Rattle.runway.specs.Time.{real_time}
use Rattle.row.specs.declared.Row.{Row}
use Rattle.row.specs.Row.{valid_row}
use Rattle.body.specs.declared.Rows.{Rows}
use Rattle.body.specs.Rows.{rows_of, make_rows, new_runways, valid_rows}
use Rattle.body.specs.Laws.Parts.{rows-kept}
use Rattle.radio.specs.declared.Radio.{Radio}
use Rattle.radio.specs.Number.{part, is_byte, number_bytes, read_number}
use Rattle.radio.specs.Minutes.{minutes_of, time_of, year_minutes}
use Rattle.radio.specs.Record.{radio_record, is_count, sendable, read_record, write_record}
use Rattle.radio.specs.Laws.Number.{groups-back, groups-sound}
use Rattle.radio.specs.Answers.{answer, radio_reading, sending, written, filled, WroteRadio}
use Rattle.radio.specs.Laws.Minutes.{minutes-small, time-back, time-real, minutes-back}
use Rattle.radio.specs.Laws.Record.{record-back, record-sound}
use Rattle.radio.specs.Laws.Arrays.{send-good, array_back, array-sound}
use Rattle.radio.specs.Laws.Size.{longest, record-size}
use Rattle.radio.specs.Laws.Refusals.{Within, reading_refusals, writing_refusals, record-within, write-within, sending-within, not-by-zero}
use Rattle.radio.specs.Laws.Left.{Stays, record-stays}

-- every number below 2^21 is read back
pub number-back : (x : ℕ) (m : List ℕ) → x < 2097152 → read_number (number_bytes x ++ m) ≡ taken (part x m)
number-back x m h = groups-back 2 0 x m h (omega arith)

-- and no other bytes are read as it
pub number-alone : (m : List ℕ) (x : ℕ) (r : List ℕ) → all is_byte m ≡ true → read_number m ≡ taken (part x r) → (m ≡ number_bytes x ++ r) × (x < 2097152)
number-alone m x r b e = let n = groups-sound 2 0 m x r (omega arith) b e in (n.is, n.small)

-- real times and the minutes of a leap year, one for one
pub time-minutes : (t : ℕ) → real_time t ≡ true → (minutes_of t < year_minutes) × (time_of (minutes_of t) ≡ t)
time-minutes t h = (minutes-small t h, time-back t h)

pub minutes-time : (x : ℕ) → x < year_minutes → (real_time (time_of x) ≡ true) × (minutes_of (time_of x) ≡ x)
minutes-time x h = (time-real x h, minutes-back x h)

-- every list of 1 to 8 valid rows, no runway twice, is read back from its record
pub reads-back : (rows : List Row) → sendable rows ≡ true → read_record (radio_record rows) ≡ taken rows
reads-back = record-back

-- and what is read is such a list, from its record and nothing else
pub reads_only : (m : List ℕ) (rows : List Row) → all is_byte m ≡ true → read_record m ≡ taken rows → (sendable rows ≡ true) × (m ≡ radio_record rows)
reads_only = record-sound

-- so for rows in their array: those of a notice are sent and read back, and those read may stand in one
pub array-reads-back : (r : Rows) → valid_rows r ≡ true → (read_record (radio_record (rows_of r)) ≡ taken (rows_of r)) × (make_rows (rows_of r) ≡ r)
array-reads-back = array_back

pub array-reads-only : (m : List ℕ) (rows : List Row) → all is_byte m ≡ true → read_record m ≡ taken rows → (valid_rows (make_rows rows) ≡ true) × (rows_of (make_rows rows) ≡ rows)
array-reads-only = array-sound

-- two lists have two records
pub one_list : (a b : List Row) → sendable a ≡ true → sendable b ≡ true → radio_record a ≡ radio_record b → a ≡ b
one_list a b h k e =
    let p : taken a ≡ taken b = sym (record-back a h) ∙ (ap read_record e ∙ record-back b k) in
    cc

-- what is written, and when
pub record Sent (room : ℕ) (rows : List Row) (m : List ℕ) : Type 0 where
  pub sent : sendable rows ≡ true
  pub is : m ≡ radio_record rows
  pub fits : length m ≤ room

pub writes-only : (room : ℕ) (rows : List Row) (m : List ℕ) → write_record room rows ≡ taken m → Sent room rows m
unfolding write_record sendable
writes-only room rows m e =
    let c = need-took 32 (is_count (length rows)) e in
    let v = need-took 19 (all valid_row rows) c.1 in
    let w = need-took 32 (new_runways [] rows) v.1 in
    let f = need-took 14 (leb (length (radio_record rows)) room) w.1 in
    took (Sent room rows) f.1 (record { sent = and_i c.0 (and_i v.0 w.0); is = refl; fits = leb-true (length (radio_record rows)) room f.0 })

pub writes : (room : ℕ) (rows : List Row) → sendable rows ≡ true → length (radio_record rows) ≤ room → write_record room rows ≡ taken (radio_record rows)
unfolding write_record sendable
writes room rows h k = rw (and-1 _ _ h, and-1 _ _ (and-2 _ _ h), and-2 _ _ (and-2 _ _ h), le-leb (length (radio_record rows)) room k)

-- "Reading and writing must undo each other"
pub written-reads : (room : ℕ) (rows : List Row) (m : List ℕ) → write_record room rows ≡ taken m → read_record m ≡ taken rows
written-reads room rows m e = let w = writes-only room rows m e in ap read_record w.is ∙ record-back rows w.sent

pub read-writes : (room : ℕ) (m : List ℕ) (rows : List Row) → all is_byte m ≡ true → length m ≤ room → read_record m ≡ taken rows → write_record room rows ≡ taken m
read-writes room m rows b h e =
    let s = record-sound m rows b e in
    writes room rows s.0 (subst (λ k. length k ≤ room) s.1 h) ∙ ap taken (sym s.1)

-- the longest record: 161 bytes always suffice
pub size : (rows : List Row) → sendable rows ≡ true → length (radio_record rows) ≤ longest
size = record-size

-- reading refuses by 30, 31 and 32 alone, writing by 32, 19 and 14
pub reading-refusals : (m : List ℕ) → Within reading_refusals (read_record m)
reading-refusals = record-within

pub writing-refusals : (room : ℕ) (rows : List Row) → Within writing_refusals (write_record room rows)
writing-refusals = write-within

-- "the first met from the left": a refusal other than 30 stays whatever follows
pub first-met : (m : List ℕ) (n : ℕ) (k : List ℕ) → read_record m ≡ refuse n → (n ≡ 30 → ⊥) → read_record (m ++ k) ≡ refuse n
first-met m n [] e h = ap read_record (append-nil m) ∙ e
first-met m n (x ∷ k) e h = subst (λ o. Stays o (read_record (m ++ (x ∷ k)))) e (record-stays m x k) h

-- and every cut of a record that is read is 30
pub every-cut : (m : List ℕ) (x : ℕ) (k : List ℕ) (rows : List Row) → read_record (m ++ (x ∷ k)) ≡ taken rows → read_record m ≡ refuse 30
every-cut m x k rows e = go (read_record m) (record-stays m x k)
  where
    go : (o : Outcome (List Row)) → Stays o (read_record (m ++ (x ∷ k))) → o ≡ refuse 30
    go (refuse n) h = which (eqb n 30) refl
      where
        which : (t : Bool) → eqb n 30 ≡ t → ◌≡◌ {A = Outcome (List Row)} (refuse n) (refuse 30)
        which true q = ap refuse (eqb-true n 30 q)
        which false q = let c = h (eqb-false n 30 q) in let z : ◌≡◌ {A = ℕ} 0 1 = cc in absurd (omega arith)
    go (taken a) h = let z : ◌≡◌ {A = ℕ} 0 1 = cc in absurd (omega arith)

-- ---- Of what the functions promise

-- what a record is read as
taken_as : (m : List ℕ) → (radio_reading m).refusal ≡ 0 → (rows : List Row) × (read_record m ≡ taken rows)
unfolding radio_reading
taken_as m h = go (read_record m) refl h
  where
    go : (o : Outcome (List Row)) → read_record m ≡ o → (answer o).refusal ≡ 0 → (rows : List Row) × (read_record m ≡ taken rows)
    go (refuse n) e k = absurd (not-by-zero reading_refusals (read_record m) refl (record-within m) n e k)
    go (taken rows) e k = (rows, e)

-- and rows are sent as
sent-as : (room : ℕ) (r : Rows) → (written (sending room r)).refusal ≡ 0 → (m : List ℕ) × (sending room r ≡ taken m)
sent-as room r h = go (sending room r) refl h
  where
    go : (o : Outcome (List ℕ)) → sending room r ≡ o → (written o).refusal ≡ 0 → (m : List ℕ) × (sending room r ≡ taken m)
    go (refuse n) e k = absurd (not-by-zero writing_refusals (sending room r) refl (sending-within room r) n e k)
    go (taken m) e k = (m, e)

-- `read_radio` takes exactly the records of lists of 1 to 8 valid rows, no runway twice
pub takes-exactly : (m : List ℕ) → all is_byte m ≡ true → ((radio_reading m).refusal ≡ 0) ↔ ((rows : List Row) × (sendable rows ≡ true) × (m ≡ radio_record rows))
unfolding radio_reading
takes-exactly m b = (
  λ h. let (rows, e) = taken_as m h in let s = record-sound m rows b e in (rows, s.0, s.1),
  λ (rows, s, e). ap (λ o. (answer o).refusal) (ap read_record e ∙ record-back rows s),
)

-- and a record is read as the rows whose record it is, and as no others
pub reads-exactly : (m : List ℕ) → all is_byte m ≡ true → (rows : List Row) → sendable rows ≡ true
    → (m ≡ radio_record rows) ↔ (radio_reading m ≡ record { refusal = 0; rows = make_rows rows })
unfolding radio_reading
reads-exactly m b rows h = (
  λ e. ap answer (ap read_record e ∙ record-back rows h),
  λ e. let (own, f) = taken_as m (ap (λ (x : Radio). x.refusal) e) in
      let s = record-sound m own b f in
      let same : make_rows own ≡ make_rows rows = sym (ap (λ o. (answer o).rows) f) ∙ ap (λ (x : Radio). x.rows) e in
      let is : own ≡ rows = sym (rows-kept own (send-good own s.0)) ∙ (ap rows_of same ∙ rows-kept rows (send-good rows h)) in
      s.1 ∙ ap radio_record is,
)

-- "A refused reading gives no rows"
pub no_rows : (m : List ℕ) → ((radio_reading m).refusal ≡ 0 → ⊥) → (radio_reading m).rows ≡ make_rows []
unfolding radio_reading
no_rows m h = go (read_record m) h
  where
    go : (o : Outcome (List Row)) → ((answer o).refusal ≡ 0 → ⊥) → (answer o).rows ≡ make_rows []
    go (refuse n) k = refl
    go (taken rows) k = absurd (k refl)

module _ {r : Rows} {before after : List ℕ} {w : Written} (p : WroteRadio r before after w) where
  abbrev sends : Outcome (List ℕ)
  sends = sending (length before) r

  -- a refused writing touches no byte and answers length 0
  pub untouched : (w.refusal ≡ 0 → ⊥) → (after ≡ before) × (w.length ≡ 0)
  untouched h = go sends p.answers p.holds
    where
      go : (o : Outcome (List ℕ)) → w ≡ written o → after ≡ filled o before → (after ≡ before) × (w.length ≡ 0)
      go (refuse n) e f = (f, ap (λ (v : Written). v.length) e)
      go (taken m) e f = absurd (h (ap (λ (v : Written). v.refusal) e))

  module _ (z : w.refusal ≡ 0) where
    the-record : (m : List ℕ) × (sends ≡ taken m)
    the-record = sent-as (length before) r (sym (ap (λ (v : Written). v.refusal) p.answers) ∙ z)

    -- what it wrote stands at the front of the buffer
    pub wrote-record : take w.length after ≡ radio_record (rows_of r)
    unfolding sending
    wrote-record =
        let (m, e) = the-record in
        let k = need-took radio_value (is_count r.count) e in
        let l : w.length ≡ length m = ap (λ (v : Written). v.length) (p.answers ∙ ap written e) in
        let f : after ≡ m ++ drop (length m) before = p.holds ∙ ap (λ o. filled o before) e in
        ap (λ n. take n after) l ∙ (ap (take (length m)) f ∙ take-front m (drop (length m) before)) ∙ (writes-only (length before) (rows_of r) m k.1).is

    -- and is read back
    pub wrote-reads : radio_reading (take w.length after) ≡ record { refusal = 0; rows = make_rows (rows_of r) }
    unfolding sending radio_reading
    wrote-reads =
        let (m, e) = the-record in
        let k = need-took radio_value (is_count r.count) e in
        ap answer (ap read_record wrote-record ∙ record-back (rows_of r) (writes-only (length before) (rows_of r) m k.1).sent)

  -- rows that may be sent are written, if there is room for their record
  pub sends-all : is_count r.count ≡ true → sendable (rows_of r) ≡ true → length (radio_record (rows_of r)) ≤ length before → w.refusal ≡ 0
  unfolding sending
  sends-all c h fits =
      let e : sends ≡ taken (radio_record (rows_of r)) = rw c (writes (length before) (rows_of r) h fits) in
      ap (λ (v : Written). v.refusal) (p.answers ∙ ap written e)

  -- 14 comes only where the buffer is shorter than the record
  pub too_short : w.refusal ≡ buffer_too_short → (sendable (rows_of r) ≡ true) × (length before < length (radio_record (rows_of r)))
  unfolding sending write_record sendable
  too_short e = go sends refl (sym (ap (λ (v : Written). v.refusal) p.answers) ∙ e)
    where
      short : sends ≡ refuse buffer_too_short → (sendable (rows_of r) ≡ true) × (length before < length (radio_record (rows_of r)))
      short q =
          let a = need-refused radio_value buffer_too_short (is_count r.count) q (λ z. omega arith) in
          let b = need-refused radio_value buffer_too_short (is_count (length (rows_of r))) a.1 (λ z. omega arith) in
          let c = need-refused invalid_row buffer_too_short (all valid_row (rows_of r)) b.1 (λ z. omega arith) in
          let d = need-refused radio_value buffer_too_short (new_runways [] (rows_of r)) c.1 (λ z. omega arith) in
          (and_i b.0 (and_i c.0 d.0), no_room (leb (length (radio_record (rows_of r))) (length before)) refl d.1)
        where
          no_room : (t : Bool) → leb (length (radio_record (rows_of r))) (length before) ≡ t
              → need buffer_too_short t (taken (radio_record (rows_of r))) ≡ refuse buffer_too_short → length before < length (radio_record (rows_of r))
          no_room true f k = no-refuse (sym k)
          no_room false f k = leb-false (length (radio_record (rows_of r))) (length before) f

      go : (o : Outcome (List ℕ)) → sends ≡ o → (written o).refusal ≡ buffer_too_short → (sendable (rows_of r) ≡ true) × (length before < length (radio_record (rows_of r)))
      go (refuse n) q k = short (q ∙ ap refuse k)
      go (taken m) q k = let z : ◌≡◌ {A = ℕ} 0 14 = k in absurd (omega arith)

  -- so never where there is room for the longest
  pub below-longest : w.refusal ≡ buffer_too_short → length before < longest
  below-longest e = let s = too_short e in let n = record-size (rows_of r) s.0 in let k = s.1 in omega arith

count_of : (rows : List Row) → sendable rows ≡ true → is_count (length rows) ≡ true
unfolding sendable
count_of rows h = and-1 _ _ h

-- "Reading and writing must undo each other": what is read is written back byte for byte, where there is room for it
pub read-wrote : (m : List ℕ) → all is_byte m ≡ true → (radio_reading m).refusal ≡ 0 → {before after : List ℕ} {w : Written} → length m ≤ length before
    → WroteRadio (radio_reading m).rows before after w → (w ≡ record { refusal = 0; length = length m }) × (take w.length after ≡ m)
unfolding sending radio_reading
read-wrote m b h {before} {after} {w} room p =
    let (rows, e) = taken_as m h in
    let s = record-sound m rows b e in
    let q : (radio_reading m).rows ≡ make_rows rows = ap (λ o. (answer o).rows) e in
    let back = (array-sound m rows b e).1 in
    let c : is_count (length rows) ≡ true = count_of rows s.0 in
    let sends : sending (length before) (make_rows rows) ≡ taken m = rw (c, back) (read-writes (length before) m rows b room e) in
    let all-sent : sending (length before) (radio_reading m).rows ≡ taken m = ap (sending (length before)) q ∙ sends in
    let is : w ≡ record { refusal = 0; length = length m } = p.answers ∙ ap written all-sent in
    let l : w.length ≡ length m = ap (λ (v : Written). v.length) is in
    let f : after ≡ m ++ drop (length m) before = p.holds ∙ ap (λ o. filled o before) all-sent in
    (is, ap (λ n. take n after) l ∙ (ap (take (length m)) f ∙ take-front m (drop (length m) before)))

-- the promise leaves no choice
pub wrote_one : {r : Rows} {b x y : List ℕ} {v w : Written} → WroteRadio r b x v → WroteRadio r b y w → (v ≡ w) × (x ≡ y)
wrote_one p q = (p.answers ∙ sym q.answers, p.holds ∙ sym q.holds)

-- "the first met from the left", of what `read_radio` answers
pub left-first : (m k : List ℕ) → ((radio_reading m).refusal ≡ 0 → ⊥) → ((radio_reading m).refusal ≡ 30 → ⊥) → (radio_reading (m ++ k)).refusal ≡ (radio_reading m).refusal
unfolding radio_reading
left-first m k z h = go (read_record m) refl z h
  where
    go : (o : Outcome (List Row)) → read_record m ≡ o → ((answer o).refusal ≡ 0 → ⊥) → ((answer o).refusal ≡ 30 → ⊥) → (answer (read_record (m ++ k))).refusal ≡ (answer o).refusal
    go (refuse n) e y g = ap (λ o. (answer o).refusal) (first-met m n k e g)
    go (taken rows) e y g = absurd (y refl)

pub cut_short : (m : List ℕ) (x : ℕ) (k : List ℕ) → (radio_reading (m ++ (x ∷ k))).refusal ≡ 0 → (radio_reading m).refusal ≡ 30
unfolding radio_reading
cut_short m x k z = let (rows, e) = taken_as (m ++ (x ∷ k)) z in ap (λ o. (answer o).refusal) (every-cut m x k rows e)
