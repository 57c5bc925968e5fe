-- At the places of 10 and 12 the serial and the time are read, and each is so many bytes before its line's end.
use Rattle.std.specs.Prelude.{ℕ, ◌+◌, ◌≡◌, refl, List, length}
use Rattle.std.proofs.Common.{sym, ◌∙◌, ap, length-append, arith}
use Rattle.text.specs.Piece.{bytes}
use Rattle.text.specs.Read.{Got, misfit, got, and_then, skip, left_by, whole, read_text, read_seq, read_as, read_gap}
use Rattle.text.specs.Numbers.{read_digits}
use Rattle.text.specs.Lines.{Cut, cut, text, onward}
use Rattle.text.specs.Laws.Base.{then-got, no-misfit, carry}
use Rattle.text.proofs.Laws.Combine.{gap-laws}
use Rattle.text.specs.Laws.Numbers.{digits-laws}
use Rattle.text.specs.Laws.Lines.{whole-got}
use Rattle.text.specs.Laws.Left.{Left, left-trans, left-append, skip-left, left_by_lem, seq-left, gap-skip, if-got, digits-size}
use Rattle.text.proofs.Laws.Left.{laws-left, text-left}
use Rattle.runway.specs.Time.{real_time}
use Rattle.frontlines.specs.declared.Heading.{Heading}
use Rattle.frontlines.specs.Heading.{aerodrome_size, is_serial, read_serial, read_time, read_designator, make_heading, read_heading, read_serial_line}
use Rattle.frontlines.specs.Letters.{read_letters}
use Rattle.frontlines.specs.Laws.Letters.{letters-laws, letter-no-space}
use Rattle.front.specs.Places.{time_on, serial_on}

-- "the later serial": at its place the serial is read
pub serial-there : (t : List ℕ) {n : ℕ} {r : List ℕ} → read_serial_line t ≡ got n r → read_serial (left_by (read_text (bytes "(SNOWTAM ") t)) ≡ got n r
unfolding read_serial_line
serial-there t e = let x = then-got (read_text (bytes "(SNOWTAM ") t) e in rw x.one x.two

-- the last of three parts, behind a gap
module _ {A B C H : Type 0} (d : List ℕ → Got A) (l : List ℕ → Got B) (f : List ℕ → Got C) (make : A × (B × C) → H) (part : H
    → C) (is : (a : A) (b : B) (c : C) → part (make (a, (b, c))) ≡ c) where
  third-there : (t : List ℕ) {h : H} {r : List ℕ} → read_as make (read_seq d (read_seq l (read_gap f))) t ≡ got h r
      → f (skip (left_by (read_seq d l t))) ≡ got (part h) r
  third-there t {h} {r} e = one (d t) e
    where
      three : (a : A) (b : B) (k : List ℕ) (g : Got C) → read_gap f k ≡ g
          → and_then (and_then (and_then g (λ c s. got (b, c) s)) (λ p s. got (a, p) s)) (λ p s. got (make p) s) ≡ got h r → f (skip k) ≡ got (part h) r
      three a b k misfit q u = no-misfit u
      three a b k (got c s) q u = carry (λ x y. f (skip k) ≡ got (part x) y) u (gap-skip f k q ∙ ap (λ x. got x s) (sym (is a b c)))

      two : (a : A) (g : Got B) → and_then (and_then (and_then g (λ b k. and_then (read_gap f k) (λ c s. got (b, c) s))) (λ p s. got (a, p) s))
          (λ p s. got (make p) s) ≡ got h r
          → f (skip (left_by {A = A × B} (and_then g (λ b s. got (a, b) s)))) ≡ got (part h) r
      two a misfit u = no-misfit u
      two a (got b k) u = three a b k (read_gap f k) refl u

      one : (g : Got A) → and_then (and_then g (λ a k. and_then (read_seq l (read_gap f) k) (λ p s. got (a, p) s))) (λ p s. got (make p) s) ≡ got h r
          → f (skip (left_by {A = A × B} (and_then g (λ a k. and_then (l k) (λ b s. got (a, b) s))))) ≡ got (part h) r
      one misfit u = no-misfit u
      one (got a k) u = two a (l k) u

-- "the heading time": at its place the time is read
pub time-there : (t : List ℕ) {h : Heading} {r : List ℕ} → read_heading t ≡ got h r
    → read_time (skip (left_by (read_seq read_designator (read_gap (read_letters aerodrome_size)) t))) ≡ got h.time r
unfolding read_heading
time-there t e = third-there read_designator (read_gap (read_letters aerodrome_size)) read_time make_heading (λ h. h.time) (λ a b c. refl) t e

designator-left : (m : List ℕ) (p : List ℕ × ℕ) (r : List ℕ) → read_designator m ≡ got p r → Left m r
designator-left m p r e =
    let x = then-got (read_text (bytes "SW") m) e in
    left-trans (text-left (bytes "SW") m x.val x.mid x.one)
    (seq-left (read_letters 2) read_serial x.mid (λ a k f. laws-left (letters-laws 1) f) (λ k n s f. laws-left (digits-laws 3) (if-got is_serial
    (read_digits 4 k) f)) p r x.two)

heading-left : (t : List ℕ) → Left t (skip (left_by (read_seq read_designator (read_gap (read_letters aerodrome_size)) t)))
heading-left t = left-trans (left_by_lem (read_seq read_designator (read_gap (read_letters aerodrome_size)) t) t
    (seq-left read_designator (read_gap (read_letters aerodrome_size)) t (designator-left t) (λ k a r e. laws-left (gap-laws
    (letters-laws 3) letter-no-space) e))) (skip-left _)

-- both are ends of the message
pub time-left : {m : List ℕ} (c : Cut) → Left m (onward c) → Left m (time_on c)
time-left (cut t behind) s = left-trans s (left-append behind (heading-left t))

pub serial-left : {m : List ℕ} (c : Cut) → Left m (onward c) → Left m (serial_on c)
serial-left (cut t behind) s = left-trans s (left-append behind (left_by_lem (read_text (bytes "(SNOWTAM ") t) t (text-left (bytes "(SNOWTAM ") t)))

-- a line that is read whole: its time is its last eight bytes, and its serial its last four
pub time-size : (c : Cut) {h : Heading} {r : List ℕ} → whole (read_heading (text c)) ≡ got h r → length (time_on c) + length (text c) ≡ 8 + length (onward c)
time-size (cut t behind) e =
    let m = skip (left_by (read_seq read_designator (read_gap (read_letters aerodrome_size)) t)) in
    let k = if-got real_time (read_digits 8 m) (time-there t (whole-got (read_heading t) e).0) in
    omega (arith, digits-size 8 m k, length-append m behind, length-append t behind)

pub serial-size : (c : Cut) {n : ℕ} {r : List ℕ} → whole (read_serial_line (text c)) ≡ got n r → length (serial_on c) + length (text c) ≡ 4 + length (onward c)
serial-size (cut t behind) e =
    let m = left_by (read_text (bytes "(SNOWTAM ") t) in
    let k = if-got is_serial (read_digits 4 m) (serial-there t (whole-got (read_serial_line t) e).0) in
    omega (arith, digits-size 4 m k, length-append m behind, length-append t behind)
