-- The longest record has 161 bytes.
use Rattle.std.specs.Prelude.{ℕ, zero, suc, ◌+◌, ◌*◌, ◌/◌, ◌<◌, ◌≤◌, ◌≡◌, refl, List, [], ◌∷◌, Bool, true, false, ltb, length}
use Rattle.std.proofs.Common.{length-append, ltb-true, ltb-false, leb-true, arith}
use Rattle.text.specs.Choice.{all}
use Rattle.text.specs.Laws.Base.{and-1, and-2}
use Rattle.row.specs.declared.Row.{Row}
use Rattle.row.specs.Row.{highest_runway, greatest_width, valid_row}
use Rattle.body.specs.Rows.{most_rows}
use Rattle.radio.specs.Number.{groups, number_bytes}
use Rattle.radio.specs.declared.Field.{Field}
use Rattle.radio.specs.declared.Field.TheVariants.{Minutes, Runway, Width, Code, Coverage, Depth, Description}
use Rattle.radio.specs.Fields.{may_be}
use Rattle.radio.specs.Record.{each, row_bytes, radio_record, sendable}
use Rattle.radio.specs.Laws.Number.{groups-zero, groups-one, groups-more}
use Rattle.radio.specs.Laws.Fields.{Filled, full, one, depth_small, description-small, own-numbers}
use Rattle.radio.specs.Laws.Record.{record_is}

-- at most one byte more for each group before the last
groups-size : (n x : ℕ) → length (groups n x) ≤ suc n
groups-size zero x = rw (groups-zero x) (omega arith)
groups-size (suc n) x = go (ltb x 128) refl (groups-size n (x / 128))
  where
    go : (t : Bool) → ltb x 128 ≡ t → length (groups n (x / 128)) ≤ suc n → length (groups (suc n) x) ≤ suc (suc n)
    go true e h = rw (groups-one (suc n) x (ltb-true x 128 e)) (omega arith)
    go false e h = rw (groups-more n x (ltb-false x 128 e)) (omega arith)

one_byte : (x : ℕ) → x < 128 → length (number_bytes x) ≤ 1
one_byte x h = rw (groups-one 2 x h) (omega arith)

two_bytes : (x : ℕ) → x < 16384 → length (number_bytes x) ≤ 2
two_bytes x h = go (ltb x 128) refl
  where
    go : (t : Bool) → ltb x 128 ≡ t → length (number_bytes x) ≤ 2
    go true e = rw (groups-one 2 x (ltb-true x 128 e)) (omega arith)
    go false e = rw (groups-more 1 x (ltb-false x 128 e), groups-one 1 (x / 128) (omega arith)) (omega arith)

-- the bytes that a field takes at most
abbrev pub most : Field → ℕ
most Minutes = 3
most Runway = 1
most Width = 1
most (Code i) = 1
most (Coverage i) = 1
most (Depth i) = 2
most (Description i) = 1

may-size : (f : Field) (x : ℕ) → may_be f x ≡ true → length (number_bytes x) ≤ most f
may-size Minutes x h = groups-size 2 x
may-size Runway x h = let k = leb-true x (highest_runway * 4 + 3) (and-2 _ _ h) in one_byte x (omega arith)
may-size Width x h = let k = leb-true x greatest_width h in one_byte x (omega arith)
may-size (Code i) x h = let k = leb-true x 6 h in one_byte x (omega arith)
may-size (Coverage i) x h = let k = leb-true x 4 h in one_byte x (omega arith)
may-size (Depth i) x h = let k = depth_small x h in two_bytes x (omega arith)
may-size (Description i) x h = let k = description-small x h in one_byte x (omega arith)

abbrev sum : List Field → ℕ
sum [] = 0
sum (f ∷ fs) = most f + sum fs

fields-size : {fs : List Field} {r q : Row} {xs : List ℕ} → Filled fs r xs q → length (each number_bytes xs) ≤ sum fs
unfolding each
fields-size (full e) = omega arith
fields-size (one {f = f} {x = x} {xs = xs} h k) = let a = may-size f x h in let b = fields-size k in rw (length-append (number_bytes x) (each number_bytes xs)) (omega arith)

pub row-size : (r : Row) → valid_row r ≡ true → length (row_bytes r) ≤ 20
row-size r h = fields-size (own-numbers r h)

rows-size : (rows : List Row) → all valid_row rows ≡ true → length (each row_bytes rows) ≤ length rows * 20
unfolding each
rows-size [] h = omega arith
rows-size (r ∷ rows) h = let a = row-size r (and-1 _ _ h) in let b = rows-size rows (and-2 _ _ h) in rw (length-append (row_bytes r) (each row_bytes rows)) (omega arith)

-- the size of the longest record
abbrev pub longest : ℕ
longest = 161

-- of at most eight valid rows
pub few_bytes : (rows : List Row) → length rows ≤ most_rows → all valid_row rows ≡ true → length (radio_record rows) ≤ longest
few_bytes rows k v =
    let a = one_byte (length rows) (omega arith) in
    let b = rows-size rows v in
    rw (record_is rows, length-append (number_bytes (length rows)) (each row_bytes rows)) (omega arith)

pub record-size : (rows : List Row) → sendable rows ≡ true → length (radio_record rows) ≤ longest
unfolding sendable
record-size rows h = few_bytes rows (leb-true (length rows) most_rows (and-2 _ _ (and-1 _ _ h))) (and-1 _ _ (and-2 _ _ h))
