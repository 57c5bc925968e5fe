-- The numbers of a row: those that fill it are those that it writes.
use Rattle.std.specs.Prelude.{ℕ, ◌+◌, ◌*◌, ◌/◌, ◌%◌, ◌<◌, ◌≤◌, ◌≡◌, refl, List, [], ◌∷◌, ◌++◌, Bool, true, false, ◌||◌, cond, eqb, leb, length}
use Rattle.std.proofs.Common.{sym, ap, ◌∙◌, subst, append_assoc, ltb-true, leb-true, eqb-true, lt-ltb, le-leb, arith}
use Rattle.text.specs.Choice.{all, ◌and◌}
use Rattle.radio.specs.Outcome.{taken}
use Rattle.text.specs.Laws.Base.{and-1, and-2, and_i, true-false}
use Rattle.text.specs.Laws.Names.{all-at}
use Rattle.radio.specs.Laws.Outcome.{took, next-took, need-took}
use Rattle.runway.specs.Time.{real_time}
use Rattle.runway.specs.Runway.{valid_runway}
use Rattle.surface.specs.declared.Third.{Third}
use Rattle.surface.specs.Descriptions.{is_description, is_contaminant, dry}
use Rattle.surface.specs.Third.{is_coverage, valid_coverage, least_depth, is_reported, valid_depth, valid_third, greatest_depth}
use Rattle.surface.specs.Laws.Table3.{least-3}
use Rattle.row.specs.declared.Row.{Row}
use Rattle.row.specs.Row.{blank_row, highest_runway, greatest_width, three_that, valid_row}
use Rattle.radio.specs.Number.{Part, part, is_byte, number_bytes, read_number}
use Rattle.radio.specs.Minutes.{minutes_of, time_of, year_minutes}
use Rattle.radio.specs.declared.Field.{Field}
use Rattle.radio.specs.declared.Field.TheVariants.{Minutes, Runway, Width, Code, Coverage, Depth, Description}
use Rattle.radio.specs.Fields.{order, may_be, fill, row_numbers, read_fields}
use Rattle.radio.specs.Record.{each}
use Rattle.radio.specs.Laws.Number.{limit, groups-back, groups-sound}
use Rattle.radio.specs.Laws.Minutes.{minutes-small, time-back, minutes-back}

-- numbers that may stand for the fields, and the row that they make of another
pub data Filled : List Field → Row → List ℕ → Row → Type 0 where
  full : {r q : Row} → r ≡ q → Filled [] r [] q
  one : {f : Field} {fs : List Field} {r q : Row} {x : ℕ} {xs : List ℕ} → may_be f x ≡ true → Filled fs (fill r f x) xs q → Filled (f ∷ fs) r (x ∷ xs) q

-- each number has at most three groups
pub depth_small : (x : ℕ) → (eqb x 0 || (leb 3 x and leb x greatest_depth)) ≡ true → x ≤ greatest_depth
depth_small x = go (eqb x 0) refl
  where
    go : (t : Bool) → eqb x 0 ≡ t → (t || (leb 3 x and leb x greatest_depth)) ≡ true → x ≤ greatest_depth
    go true e h = let k = eqb-true x 0 e in omega arith
    go false e h = leb-true x greatest_depth (and-2 _ _ h)

pub description-small : (x : ℕ) → is_description x ≡ true → x < 128
description-small x h = let k = leb-true x dry h in omega arith

pub may-small : (f : Field) (x : ℕ) → may_be f x ≡ true → x < limit 2
may-small Minutes x h = let k = ltb-true x year_minutes h in omega arith
may-small Runway x h = let k = leb-true x (highest_runway * 4 + 3) (and-2 _ _ h) in omega arith
may-small Width x h = let k = leb-true x greatest_width h in omega arith
may-small (Code i) x h = let k = leb-true x 6 h in omega arith
may-small (Coverage i) x h = let k = leb-true x 4 h in omega arith
may-small (Depth i) x h = let k = depth_small x h in omega arith
may-small (Description i) x h = let k = description-small x h in omega arith

-- numbers that fill a row are read so
pub fields_back : {fs : List Field} {r q : Row} {xs : List ℕ} → Filled fs r xs q → (m : List ℕ) → read_fields fs r (each number_bytes xs ++ m) ≡ taken (part q m)
unfolding read_fields each
fields_back (full e) m = ap (λ q. taken (part q m)) e
fields_back (one {f = f} {x = x} {xs = xs} h k) m =
    rw (append_assoc (number_bytes x) (each number_bytes xs) m, groups-back 2 0 x (each number_bytes xs ++ m) (may-small f x h) (omega arith), h) (fields_back k m)

-- and what was read is such numbers
pub record Fields (fs : List Field) (r : Row) (m : List ℕ) (p : Part Row) : Type 0 where
  pub numbers : List ℕ
  pub filled : Filled fs r numbers p.value
  pub is : m ≡ each number_bytes numbers ++ p.rest
  pub bytes : all is_byte p.rest ≡ true

pub fields-sound : (fs : List Field) (r : Row) (m : List ℕ) (p : Part Row) → all is_byte m ≡ true → read_fields fs r m ≡ taken p → Fields fs r m p
unfolding read_fields each
fields-sound [] r m p b e = took (Fields [] r m) e (record { numbers = []; filled = full refl; is = refl; bytes = b })
fields-sound (f ∷ fs) r m p b e =
    let w = next-took (read_number m) e in
    let x = w.val.value in
    let n = groups-sound 2 0 m x w.val.rest (omega arith) b w.one in
    let g = need-took 32 (may_be f x) w.two in
    let i = fields-sound fs (fill r f x) w.val.rest p n.bytes g.1 in
    record {
      numbers = x ∷ i.numbers;
      filled = one g.0 i.filled;
      is = n.is ∙ (ap (λ k. number_bytes x ++ k) i.is ∙ sym (append_assoc (number_bytes x) (each number_bytes i.numbers) p.rest));
      bytes = i.bytes;
    }

-- the numbers that filled a row are its own
cover-back : (x : ℕ) → x * 25 / 25 ≡ x
cover-back x = omega arith

runway-back : (x : ℕ) → x / 4 * 4 + x % 4 ≡ x
runway-back x = omega arith

pub filled-numbers : {xs : List ℕ} {q : Row} → Filled order blank_row xs q → row_numbers q ≡ xs
filled-numbers (one {x = t} ht (one {x = n} hn (one {x = c0} h0 (one {x = c1} h1 (one {x = c2} h2 (one {x = a} ha (one {x = b} hb (one {x = c} hc
    (one {x = d0} k0 (one {x = d1} k1 (one {x = d2} k2 (one {x = e0} l0 (one {x = e1} l1 (one {x = e2} l2 (one {x = w} hw (full e)))))))))))))))) =
    subst (λ q. row_numbers q ≡ t ∷ n ∷ c0 ∷ c1 ∷ c2 ∷ a ∷ b ∷ c ∷ d0 ∷ d1 ∷ d2 ∷ e0 ∷ e1 ∷ e2 ∷ w ∷ []) e
    (rw (minutes-back t (ltb-true t year_minutes ht), runway-back n, cover-back a, cover-back b, cover-back c))

cover_good : ℕ → Bool
cover_good c = leb (c / 25) 4 and eqb (c / 25 * 25) c

cover-good : all cover_good (25 ∷ 50 ∷ 75 ∷ 100 ∷ []) ≡ true
unfolding cover_good ◌and◌
cover-good = refl

valid-cover : (t : Third) → valid_coverage t ≡ true → (leb (t.coverage / 25) 4 ≡ true) × (t.coverage / 25 * 25 ≡ t.coverage)
unfolding valid_coverage is_coverage cover_good
valid-cover t h = go (eqb t.coverage 0) refl h
  where
    go : (b : Bool) → eqb t.coverage 0 ≡ b → cond b true (is_coverage t.coverage and is_contaminant t.description) ≡ true
        → (leb (t.coverage / 25) 4 ≡ true) × (t.coverage / 25 * 25 ≡ t.coverage)
    go true e k = let z = eqb-true t.coverage 0 e in (le-leb (t.coverage / 25) 4 (omega arith), omega arith)
    go false e k =
        let g = all-at cover_good (25 ∷ 50 ∷ 75 ∷ 100 ∷ []) t.coverage cover-good (and-1 _ _ k) in
        (and-1 _ _ g, eqb-true (t.coverage / 25 * 25) t.coverage (and-2 _ _ g))

valid-deep : (t : Third) → valid_depth t ≡ true → (eqb t.depth 0 || (leb 3 t.depth and leb t.depth greatest_depth)) ≡ true
unfolding valid_depth is_reported
valid-deep t h = go (eqb t.depth 0) refl h
  where
    go : (b : Bool) → eqb t.depth 0 ≡ b → cond b true (is_reported t.description t.depth and leb t.depth greatest_depth) ≡ true
        → (b || (leb 3 t.depth and leb t.depth greatest_depth)) ≡ true
    go true e k = refl
    go false e k =
        let l = leb-true (least_depth t.description) t.depth (and-2 _ _ (and-1 _ _ k)) in
        let z = least-3 t.description (and-1 _ _ (and-1 _ _ k)) in
        and_i (le-leb 3 t.depth (omega arith)) (and-2 _ _ k)

-- what a valid third's numbers may be
pub record Numbers (t : Third) : Type 0 where
  pub codes : leb t.code 6 ≡ true
  pub covers : leb (t.coverage / 25) 4 ≡ true
  pub back : t.coverage / 25 * 25 ≡ t.coverage
  pub deep : (eqb t.depth 0 || (leb 3 t.depth and leb t.depth greatest_depth)) ≡ true
  pub describes : is_description t.description ≡ true

pub third-numbers : (t : Third) → valid_third t ≡ true → Numbers t
unfolding valid_third
third-numbers t h =
    let c = valid-cover t (and-1 _ _ (and-2 _ _ (and-2 _ _ h))) in
    record { codes = and-1 _ _ h; covers = c.0; back = c.1; deep = valid-deep t (and-2 _ _ (and-2 _ _ (and-2 _ _ h))); describes = and-1 _ _ (and-2 _ _ h) }

abbrev row_with : ℕ → ℕ → ℕ → ℕ → Third → Third → Third → Row
row_with t n s w a b c = record { time = t; number = n; side = s; thirds = a ∷ b ∷ c ∷ []; width = w }

-- a valid row's numbers fill it
filled_row : (t n s w : ℕ) (a b c : Third) → real_time t ≡ true → 1 ≤ n → n ≤ highest_runway → s ≤ 3 → leb w greatest_width ≡ true → Numbers a → Numbers b → Numbers c
    → Filled order blank_row (row_numbers (row_with t n s w a b c)) (row_with t n s w a b c)
filled_row t n s w a b c real low high side wide A B C =
    let p : (n * 4 + s) / 4 ≡ n = omega arith in
    let q : (n * 4 + s) % 4 ≡ s = omega arith in
    let third : Third → Third = λ x. record { code = x.code; coverage = x.coverage / 25 * 25; depth = x.depth; description = x.description } in
    let same : row_with (time_of (minutes_of t)) ((n * 4 + s) / 4) ((n * 4 + s) % 4) w (third a) (third b) (third c) ≡ row_with t n s w a b c = rw (time-back t real, p, q, A.back, B.back, C.back) in
    one (lt-ltb (minutes_of t) year_minutes (minutes-small t real))
    (one (and_i (le-leb 4 (n * 4 + s) (omega arith)) (le-leb (n * 4 + s) (highest_runway * 4 + 3) (omega arith)))
    (one A.codes (one B.codes (one C.codes
    (one A.covers (one B.covers (one C.covers
    (one A.deep (one B.deep (one C.deep
    (one A.describes (one B.describes (one C.describes
    (one wide (full same)))))))))))))))

-- three of them
three : (test : Third → Bool) (ts : List Third) → three_that test ts ≡ true
    → (a : Third) × (b : Third) × (c : Third) × (ts ≡ a ∷ b ∷ c ∷ []) × (test a ≡ true) × (test b ≡ true) × (test c ≡ true)
unfolding three_that
three test [] h = true-false (sym (and-1 _ _ h))
three test (a ∷ []) h = true-false (sym (and-1 _ _ h))
three test (a ∷ b ∷ []) h = true-false (sym (and-1 _ _ h))
three test (a ∷ b ∷ c ∷ []) h = let k = and-2 _ _ h in (a, b, c, refl, and-1 _ _ k, and-1 _ _ (and-2 _ _ k), and-1 _ _ (and-2 _ _ (and-2 _ _ k)))
three test (a ∷ b ∷ c ∷ d ∷ ts) h = let z = eqb-true (length (a ∷ b ∷ c ∷ d ∷ ts)) 3 (and-1 _ _ h) in absurd (omega arith)

with-thirds : Row → List Third → Row
with-thirds r ts = record { time = r.time; number = r.number; side = r.side; thirds = ts; width = r.width }

pub own-numbers : (r : Row) → valid_row r ≡ true → Filled order blank_row (row_numbers r) r
unfolding valid_row valid_runway with-thirds
own-numbers r h =
    let k = and-2 _ _ h in
    let n = and-1 _ _ k in
    let k2 = and-2 _ _ k in
    let ts = three valid_third r.thirds (and-2 _ _ k2) in
    subst (λ l. Filled order blank_row (row_numbers (with-thirds r l)) (with-thirds r l)) (sym ts.3)
    (filled_row r.time r.number r.side r.width ts.0 ts.1 ts.2 (and-1 _ _ h)
    (leb-true 1 r.number (and-1 _ _ n)) (leb-true r.number highest_runway (and-1 _ _ (and-2 _ _ n))) (leb-true r.side 3 (and-2 _ _ (and-2 _ _ n)))
    (and-1 _ _ k2) (third-numbers ts.0 ts.4) (third-numbers ts.1 ts.5) (third-numbers ts.2 ts.6))
