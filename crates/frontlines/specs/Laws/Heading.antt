-- Lines 3, 4 and 5 are each read exactly if what they say is valid and their text is typed.
use Rattle.std.specs.Prelude.{ℕ, ◌/◌, ◌^◌, ◌<◌, ◌≤◌, ◌≡◌, refl, List, true, eqb}
use Rattle.std.proofs.Common.{arith, lit≤, leb-true}
use Rattle.text.specs.Choice.{◌and◌}
use Rattle.text.specs.Piece.{bytes, spell, verbatim}
use Rattle.text.specs.Names.{is_letter}
use Rattle.text.specs.Numbers.{is_digit, digits}
use Rattle.text.specs.Laws.Base.{Laws, Head, Any, inline, solid, not-space, and-1, and-2, and_i}
use Rattle.text.specs.Laws.Combine.{seq-laws, if-laws, as-laws, revalid, loosen}
use Rattle.text.proofs.Laws.Combine.{gap-laws, after-laws}
use Rattle.text.specs.Laws.Numbers.{digits-laws}
use Rattle.text.specs.Laws.Sizes.{size, cons-size, append-size, digits-size, spell-size, verbatim-size}
use Rattle.text.specs.Laws.Lines.{Ends}
use Rattle.runway.specs.Time.{real_time, real_day}
use Rattle.frontlines.specs.Letters.{is_letters}
use Rattle.frontlines.specs.declared.Heading.{Heading}
use Rattle.frontlines.specs.Heading.{region_size, aerodrome_size, is_serial, read_serial, designator_pieces, read_designator, heading_pieces}
use Rattle.frontlines.specs.Heading.{make_heading, read_heading, valid_title, valid_heading, serial_pieces, read_serial_line, aerodrome_pieces, read_aerodrome}
use Rattle.frontlines.specs.Laws.Letters.{letters-long, letters-laws, letter-no-space}

-- an observation time has eight digits
time-low : (t : ℕ) → real_time t ≡ true → t < 10 ^ 8
unfolding real_time real_day
time-low t h = let k = leb-true (t / 1000000) 12 (and-1 _ _ (and-2 _ _ (and-1 _ _ h))) in omega arith

pub serial-low : (n : ℕ) → is_serial n ≡ true → n < 10 ^ 4
serial-low n h = let k = leb-true n 9999 (and-2 _ _ h) in omega arith

serial-laws : Laws (λ n. is_serial n ≡ true) (digits 4) read_serial (Head is_digit) Any
serial-laws = revalid (if-laws (digits-laws 3) is_serial) (λ n. is_serial n ≡ true) (λ n v. v.1) (λ n h. (serial-low n h, h))

sw : inline (spell (bytes "SW")) ≡ true
unfolding inline spell ◌and◌
sw = refl

pub designator-laws : Laws (λ d. (is_letters region_size d.0 ≡ true) × (is_serial d.1 ≡ true)) (λ d. designator_pieces d.0 d.1) read_designator
    (Head (eqb 83)) Any
designator-laws = after-laws (seq-laws (letters-laws 1) serial-laws (λ m h. tt)) 83 (bytes "W") sw (λ m h. refl)

pub heading-laws : Laws (λ h. valid_heading h ≡ true) heading_pieces read_heading (Head (eqb 83)) Ends
unfolding read_heading heading_pieces valid_title valid_heading
heading-laws = as-laws
    (loosen (seq-laws designator-laws
    (seq-laws (gap-laws (letters-laws 3) letter-no-space) (gap-laws (if-laws (digits-laws 7) real_time) (not-space is_digit refl)) (λ m h. tt)) (λ m h. tt))
    (λ m h. h) (λ m h. tt))
    (λ h. valid_heading h ≡ true) make_heading (λ h. ((h.title.region, h.title.serial), (h.title.aerodrome, h.time)))
    (λ p v. (and_i (and_i v.0.0 (and_i v.0.1 v.1.0)) v.1.1.1, refl))
    (λ h v. let t = and-1 _ _ v in let w = and-2 _ _ t in let r = and-2 _ _ v in (((and-1 _ _ t, and-1 _ _ w), (and-2 _ _ w, (time-low h.time r, r))), refl))

snowtam : inline (spell (bytes "(SNOWTAM ")) ≡ true
unfolding inline spell ◌and◌
snowtam = refl

snowtam-solid : (m : List ℕ) → Head is_digit m → solid (bytes "(SNOWTAM ") m ≡ true
snowtam-solid m h = rw (not-space is_digit refl m h)

pub serial-line-laws : Laws (λ n. is_serial n ≡ true) serial_pieces read_serial_line (Head (eqb 40)) Ends
unfolding read_serial_line serial_pieces
serial-line-laws = loosen (after-laws serial-laws 40 (bytes "SNOWTAM ") snowtam snowtam-solid) (λ m h. h) (λ m h. tt)

pub aerodrome-laws : Laws (λ a. is_letters aerodrome_size a ≡ true) aerodrome_pieces read_aerodrome (Head is_letter) Ends
unfolding read_aerodrome aerodrome_pieces
aerodrome-laws = loosen (letters-laws 3) (λ m h. h) (λ m h. tt)

-- how long the lines are
pub heading-size : (h : Heading) → valid_title h.title ≡ true → size (heading_pieces h) ≤ 22
unfolding heading_pieces valid_title
heading-size h v =
    let a = letters-long region_size h.title.region (and-1 _ _ v) in
    let b = letters-long aerodrome_size h.title.aerodrome (and-2 _ _ (and-2 _ _ v)) in
    rw (
      append-size,
      append-size (spell (bytes "SW")) _,
      spell-size,
      append-size (verbatim h.title.region) _,
      digits-size,
      cons-size,
      append-size (verbatim h.title.aerodrome) _,
      cons-size,
      digits-size,
      verbatim-size h.title.region,
      verbatim-size h.title.aerodrome,
    )
    (omega arith)

pub serial-size : (n : ℕ) → size (serial_pieces n) ≤ 13
unfolding serial_pieces
serial-size n = rw (append-size, spell-size, digits-size) (lit≤ tt)

pub aerodrome-size : (a : List ℕ) → is_letters aerodrome_size a ≡ true → size (aerodrome_pieces a) ≤ 4
unfolding aerodrome_pieces
aerodrome-size a h = let e = letters-long aerodrome_size a h in rw verbatim-size (omega arith)
