-- One step of each reader of a row.
use Rattle.std.specs.Prelude.{◌≡◌, ℕ, ◌<◌, ◌≤◌, Option, None, Some, unwrap_or, Bool, true, false, eqb, leb, List, [], ◌∷◌, length, drop}
use Rattle.std.proofs.Common.{refl, ◌∙◌, get_or, drop-cons, drop_of_length-le, arith}
use Rattle.text.specs.Choice.{◌and◌, all, is_empty}
use Rattle.text.specs.Read.{Got, got, skip, read_if, read_gap}
use Rattle.text.specs.Numbers.{read_digits}
use Rattle.text.specs.Out.{Out, refuse}
use Rattle.text.specs.Refusals.{number}
use Rattle.text.specs.Code.Faults.{Refused}
use Rattle.text.specs.Code.Held.{Held}
use Rattle.text.specs.Laws.Base.{Laws}
use Rattle.text.specs.declared.Found.{Found}
use Rattle.text.specs.declared.refusal.Refusal.{Refusal}
use Rattle.text.specs.declared.refusal.Fault.{Fault}
use Rattle.thirds.specs.Groups.{Three, group_pieces, read_group}
use Rattle.thirds.specs.Code.Held.{three}
use Rattle.thirds.specs.Laws.Groups.{Shown}
use Rattle.thirds.specs.declared.Group.{Group}
use Rattle.thirds.specs.declared.Group.TheVariants.{Codes, Coverages, Depths}
use Rattle.rowtext.specs.Reading.{parted, each, read_width, code_group, coverage_group, depth_group}
use Rattle.rowtext.specs.Code.Filling.{may_stand, alone_group, FaultAt, HeldWidth}
use Rattle.rowtext.specs.Laws.Short.{alone-got}
use Rattle.rowtext.specs.Laws.Tail.{width-laws}

-- a line ends at a place, or a byte stands there
module _ (m : List ℕ) (i : ℕ) where
  pub parted_end : length m ≤ i → parted (drop i m) ≡ true
  unfolding parted
  parted_end h = rw (drop_of_length-le m h)

  pub parted_at : i < length m → parted (drop i m) ≡ eqb (get_or m i 0) 32
  unfolding parted
  parted_at h = rw (drop-cons m i 0 h)

  pub left_over : i < length m → is_empty (drop i m) ≡ false
  left_over h = rw (drop-cons m i 0 h)

pub some_left : (m : List ℕ) → (length m ≡ 0 → ⊥) → is_empty m ≡ false
some_left [] h = absurd (h refl)
some_left (x ∷ m) h = refl

-- the part that k should be is at fault
pub faulted : {A : Type 0} {o : Out A} {m k : List ℕ} {n : Refusal} {f : Fault} → FaultAt m k n f → o ≡ refuse (number n) (skip k) → Refused m o f
faulted f q = record { within = f.place.within; says = q ∙ rw (f.refused, f.place.left) }

-- the groups that are read by themselves
pub codes_alone : (m : List ℕ) → code_group m ≡ alone_group Codes m
unfolding code_group alone_group may_stand
codes_alone m = refl

pub coverages_alone : (m : List ℕ) → coverage_group m ≡ alone_group Coverages m
unfolding coverage_group alone_group may_stand
coverages_alone m = refl

pub depths_alone : (m : List ℕ) → depth_group m ≡ alone_group Depths m
unfolding depth_group alone_group may_stand
depths_alone m = refl

-- a test of an array of three numbers
pub each_is : (test : ℕ → Bool) (ns : List ℕ) {b : Bool} → length ns ≡ 3 → b ≡ all test ns → b ≡ each test (three ns)
unfolding ◌and◌
each_is test [] h e = absurd (omega arith)
each_is test (x ∷ []) h e = absurd (omega arith)
each_is test (x ∷ y ∷ []) h e = absurd (omega arith)
each_is test (x ∷ y ∷ z ∷ []) h e = e ∙ go (test x) (test y) (test z)
  where
    go : (a b c : Bool) → (a and b and c and true) ≡ (a and b and c)
    go true true true = refl
    go true true false = refl
    go true false c = refl
    go false b c = refl
each_is test (x ∷ y ∷ z ∷ w ∷ ns) h e = absurd (omega arith)

-- how large the numbers that are read can be
module _ (g : Group) {s f : List ℕ → Type 0} (L : Laws (Shown g) (group_pieces g) (read_group g) s f) (k : List ℕ) where
  pub shown : {t : Three} {r : List ℕ} → read_group g k ≡ got t r → Shown g t
  shown e = (L.sound {m = k} e).0

  pub alone-shown : {t : Three} {r : List ℕ} → alone_group g k ≡ got t r → Shown g t
  unfolding alone_group
  alone-shown e = shown (alone-got (read_group g k) (each (may_stand g)) e)

-- a width that is there, or none
abbrev some_width : List ℕ → Got ℕ
some_width = read_gap (read_if (λ w. leb 1 w) (read_digits 2))

pub width-or : (m : List ℕ) (i : ℕ) (r : Option Found) → i ≤ length m → Held m (some_width (drop i m)) r → HeldWidth m (drop i m) (unwrap_or r (record { value = 0; next = i }))
unfolding read_width
width-or m i None l h =
    let e : read_width (drop i m) ≡ got 0 (drop i m) = rw h.says in
    record { within = l; says = e; low = (width-laws.sound e).0 }
width-or m i (Some f) l h =
    let e : read_width (drop i m) ≡ got f.value (drop f.next m) = rw h.says in
    record { within = h.within; says = e; low = (width-laws.sound e).0 }
