-- A line is taken exactly if it is a row, as that row: judging group by group takes what the reading as one text takes.
use Prim.Native.Nat.{ℕ, ◌<◌}
use Rattle.std.specs.Prelude.{◌≡◌, Bool}
use Rattle.std.proofs.Math.Path.{refl, sym}
use Rattle.std.proofs.Common.{◌∙◌, ap, ne_eqb}
use mathlib.Core.List.{List, [], ◌∷◌}
use Rattle.std.proofs.Math.Bool.{true, false}
use Rattle.std.proofs.lemmas.Bool.{eqb-false}
use Rattle.text.specs.Choice.{all, is_empty}
use Rattle.text.specs.Code.Held.{is_got}
use Rattle.text.specs.Read.{Got, misfit, got, guard, and_then, or_else, skip, whole, read_seq, read_if, read_as, read_bind, read_gap}
use Rattle.text.specs.Numbers.{read_digits}
use Rattle.text.specs.Out.{Out, refuse, taken, fit, demand}
use Rattle.text.specs.Refusals.{no_row, wrong_runway, wrong_codes, wrong_coverage_or_depth, wrong_descriptions, wrong_width}
use Rattle.text.specs.Laws.Base.{true-false, text-off, no-misfit, carry, then-got}
use Rattle.text.specs.Laws.Left.{gap-skip}
use Rattle.runway.specs.Time.{real_time}
use Rattle.runway.specs.Runway.{read_runway}
use Rattle.surface.specs.Third.{is_code, valid_coverage, valid_depth}
use Rattle.thirds.specs.Groups.{Three, read_group}
use Rattle.thirds.specs.Laws.Groups.{Shown, descriptions-laws}
use Rattle.thirds.specs.declared.Group.{Group}
use Rattle.thirds.specs.declared.Group.TheVariants.{Codes, Coverages, Depths, Descriptions}
use Rattle.row.specs.Row.{valid_row, is_short}
use Rattle.rowtext.specs.Reading.{Rest, all_nr, make_thirds, make_row, read_width, parted, each, is_runway, may_cover, may_lie}
use Rattle.rowtext.specs.Reading.{time_group, runway_group, code_group, coverage_group, depth_group, description_group, width_group}
use Rattle.rowtext.specs.Reading.{short, group, behind_codes, find_row}
use Rattle.rowtext.specs.Laws.Whole.{read_full, read_short, read_rest, read_row, whole_row}
use Rattle.rowtext.specs.Laws.Tail.{full-misfit, width-laws}
use Rattle.rowtext.specs.Laws.Valid.{made, row-parts, row-valid, bare-covers, bare-lies}
use Rattle.row.specs.declared.Row.{Row}

-- a reading without its number and place
abbrev pub forget : {A : Type 0} → Out A → Got A
forget (refuse n left) = misfit
forget (taken a) = got a []

-- what is read, then judged
then-then : {A B C : Type 0} (g : Got A) (f : A → List ℕ → Got B) (h : B → List ℕ → Got C)
    → and_then (and_then g f) h ≡ and_then g (λ a r. and_then (f a r) h)
then-then misfit f h = refl
then-then (got a r) f h = refl

then-none : {A B : Type 0} (g : Got A) {f : A → List ℕ → Got B} → ((a : A) (r : List ℕ) → g ≡ got a r → f a r ≡ misfit) → and_then g f ≡ misfit
then-none misfit e = refl
then-none (got a r) e = e a r refl

whole-then : {A : Type 0} (g : Got A) → whole g ≡ and_then g (λ a r. whole (got a r))
whole-then misfit = refl
whole-then (got a r) = refl

-- a test that fails
opposite : (b : Bool) → (b ≡ true → ⊥) → b ≡ false
opposite true h = absurd (h refl)
opposite false h = refl

-- a group that is read and tested at once, against one that is read, and judged at the end
module _ {A B : Type 0} (n : ℕ) (left : List ℕ) (g : Got A) (test : A → Bool) (k : A → List ℕ → Out B) (j : A → List ℕ → Got B)
    (same : (a : A) (r : List ℕ) → g ≡ got a r → test a ≡ true → parted r ≡ true → forget (k a r) ≡ j a r)
    (untrue : (a : A) (r : List ℕ) → g ≡ got a r → test a ≡ false → j a r ≡ misfit)
    (glued : (a : A) (r : List ℕ) → g ≡ got a r → parted r ≡ false → j a r ≡ misfit) where
  group-step : forget (fit n left (and_then (and_then g (λ a r. guard (test a) (got a r))) (λ a r. guard (parted r) (got a r))) k) ≡ and_then g j
  group-step = go g refl
    where
      tried : (a : A) (r : List ℕ) → g ≡ got a r → (b c : Bool) → test a ≡ b → parted r ≡ c
          → forget (fit n left (and_then (guard b (got a r)) (λ a r. guard (parted r) (got a r))) k) ≡ j a r
      tried a r e true true p q = rw q (same a r e p q)
      tried a r e true false p q = rw q (sym (glued a r e q))
      tried a r e false c p q = sym (untrue a r e p)

      go : (h : Got A) → g ≡ h
          → forget (fit n left (and_then (and_then h (λ a r. guard (test a) (got a r))) (λ a r. guard (parted r) (got a r))) k) ≡ and_then h j
      go misfit e = refl
      go (got a r) e = tried a r e (test a) (parted r) refl refl

-- a group that is not tested
alone-step : {A B : Type 0} (n : ℕ) (left : List ℕ) (g : Got A) (k : A → List ℕ → Out B) (j : A → List ℕ → Got B)
    → ((a : A) (r : List ℕ) → g ≡ got a r → parted r ≡ true → forget (k a r) ≡ j a r)
    → ((a : A) (r : List ℕ) → g ≡ got a r → parted r ≡ false → j a r ≡ misfit)
    → forget (fit n left (and_then g (λ a r. guard (parted r) (got a r))) k) ≡ and_then g j
alone-step n left misfit k j same glued = refl
alone-step n left (got a r) k j same glued = go (parted r) refl
  where
    go : (b : Bool) → parted r ≡ b → forget (fit n left (guard b (got a r)) k) ≡ j a r
    go true q = same a r refl q
    go false q = sym (glued a r refl q)

-- a group that may have something glued to it
fit-step : {A B : Type 0} (n : ℕ) (left : List ℕ) (g : Got A) (k : A → List ℕ → Out B) (j : A → List ℕ → Got B)
    → ((a : A) (r : List ℕ) → g ≡ got a r → forget (k a r) ≡ j a r) → forget (fit n left g k) ≡ and_then g j
fit-step n left misfit k j e = refl
fit-step n left (got a r) k j e = e a r refl

-- a demand, against what is judged at the end
demand-step : {A : Type 0} (t : Bool) (n : ℕ) (left : List ℕ) (o : Out A) (g : Got A) → (t ≡ true → forget o ≡ g) → (t ≡ false → g ≡ misfit)
    → forget (demand t n left o) ≡ g
demand-step true n left o g p q = p refl
demand-step false n left o g p q = sym (q refl)

-- where a group is glued to what stands before it, it does not fit
gap-glued : {A : Type 0} (f : List ℕ → Got A) (m : List ℕ) → parted m ≡ false → read_gap f m ≡ misfit
unfolding parted
gap-glued f [] h = true-false h
gap-glued f (x ∷ m) h = rw (text-off 32 [] (x ∷ m) (ne_eqb 32 x (λ e. eqb-false x 32 h (sym e))))

pub group-glued : (g : Group) (m : List ℕ) → parted m ≡ false → read_group g m ≡ misfit
unfolding read_group
group-glued g m h = gap-glued _ m h

-- the row that groups make, judged once all are read and nothing is left
judge : Row → List ℕ → Got Row
judge q r = and_then (guard (valid_row q) (got q r)) (λ a k. whole (got a k))

judge-off : (q : Row) (r : List ℕ) → (valid_row q ≡ true → ⊥) → judge q r ≡ misfit
unfolding judge
judge-off q r h = rw (opposite (valid_row q) h)

judge-more : (q : Row) (x : ℕ) (r : List ℕ) → judge q (x ∷ r) ≡ misfit
unfolding judge
judge-more q x r = go (valid_row q)
  where
    go : (b : Bool) → and_then (guard b (got q (x ∷ r))) (λ a k. whole (got a k)) ≡ misfit
    go true = refl
    go false = refl

judge-on : (q : Row) → valid_row q ≡ true → judge q [] ≡ got q []
unfolding judge
judge-on q h = rw h

-- the groups of a row one after the other
from_width : (Rest → ℕ → Row) → Rest → List ℕ → Got Row
from_width row rest m = and_then (read_width m) (λ w r. judge (row rest w) r)

from_rest : Three → (Rest → ℕ → Row) → List ℕ → Got Row
from_rest code row m = and_then (read_rest code m) (λ rest r. from_width row rest r)

from_codes : ℕ → ℕ × ℕ → List ℕ → Got Row
from_codes t p m = and_then (read_group Codes m) (λ c r. from_rest c (made t p c) r)

from_runway : ℕ → List ℕ → Got Row
from_runway t m = and_then (read_gap read_runway m) (λ p r. from_codes t p r)

-- of any readers
module _ (f : List ℕ → Got ℕ) (g : List ℕ → Got (ℕ × ℕ)) (h : List ℕ → Got Three) (i : Three → List ℕ → Got Rest) (j : List ℕ → Got ℕ) where
  flat : (m : List ℕ) → whole (read_if valid_row (read_as make_row (read_seq f (read_seq g (read_bind h (λ c. read_seq (i c) j))))) m)
      ≡ and_then (f m) (λ t k₁. and_then (g k₁) (λ p k₂. and_then (h k₂) (λ c k₃. and_then (i c k₃) (λ rest k₄.
      and_then (j k₄) (λ w r. judge (made t p c rest w) r)))))
  unfolding judge made
  flat m = whole-then (read_if valid_row (read_as make_row (read_seq f (read_seq g (read_bind h (λ c. read_seq (i c) j))))) m) ∙ simp (then-then, judge, made)

row-flat : (line : List ℕ) → whole_row line ≡ and_then (read_digits 8 line) (λ t r. from_runway t r)
unfolding read_row from_width from_rest from_codes from_runway
row-flat line = flat (read_digits 8) (read_gap read_runway) (read_group Codes) read_rest read_width line

-- the width, and what follows
judge-glued : (q : Row) (r : List ℕ) → parted r ≡ false → judge q r ≡ misfit
unfolding parted
judge-glued q [] h = true-false h
judge-glued q (x ∷ r) h = judge-more q x r

last-same : (q : Row) (r : List ℕ) → valid_row q ≡ true → forget (demand (is_empty r) wrong_width (skip r) (taken q)) ≡ judge q r
last-same q [] h = sym (judge-on q h)
last-same q (x ∷ r) h = sym (judge-more q x r)

width_same : (row : Rest → ℕ → Row) (rest : Rest) (m : List ℕ) → ((w : ℕ) → w < 100 → valid_row (row rest w) ≡ true)
    → forget (group wrong_width width_group m (λ w k. demand (is_empty k) wrong_width (skip k) (taken (row rest w)))) ≡ from_width row rest m
unfolding width_group from_width
width_same row rest m valid = alone-step wrong_width (skip m) (read_width m) _ _
    (λ w r e q. last-same (row rest w) r (valid w (width-laws.sound e).0))
    (λ w r e q. judge-glued (row rest w) r q)

width-none : (row : Rest → ℕ → Row) (rest : Rest) (m : List ℕ) → ((w : ℕ) → valid_row (row rest w) ≡ true → ⊥) → from_width row rest m ≡ misfit
unfolding from_width
width-none row rest m off = then-none (read_width m) (λ w r e. judge-off (row rest w) r (off w))

-- a short row, by its two groups
pub record Brief (m : List ℕ) : Type 0 where
  pub description : Three
  pub rest : List ℕ
  pub width : ℕ
  pub first : read_group Descriptions m ≡ got description rest
  pub second : read_width rest ≡ got width []

pub short_has : (m : List ℕ) → short m ≡ true → Brief m
unfolding short
short_has m h = go (read_group Descriptions m) refl h
  where
    two : (s : Three) (r : List ℕ) → read_group Descriptions m ≡ got s r → (g : Got ℕ) → read_width r ≡ g
        → is_got {A = Three × ℕ} (whole (and_then g (λ w k. got (s, w) k))) ≡ true → Brief m
    two s r e misfit f k = true-false (sym k)
    two s r e (got w []) f k = record { description = s; rest = r; width = w; first = e; second = f }
    two s r e (got w (x ∷ q)) f k = true-false (sym k)

    go : (g : Got Three) → read_group Descriptions m ≡ g
        → is_got {A = Three × ℕ} (whole (and_then g (λ s r. and_then (read_width r) (λ w k. got (s, w) k)))) ≡ true → Brief m
    go misfit e k = true-false (sym k)
    go (got s r) e k = two s r e (read_width r) refl k

pub short-is : (m : List ℕ) {s : Three} {r : List ℕ} {w : ℕ} → read_group Descriptions m ≡ got s r → read_width r ≡ got w [] → short m ≡ true
unfolding short
short-is m e f = rw (e, f)

-- behind the descriptions of a short row no depths stand
pub no-depth : (m : List ℕ) (b : Brief m) → read_group Depths b.rest ≡ misfit
no-depth m b = let x = width-laws.sound b.second in (width-laws.starts b.width x.0 x.1 refl).1

flat-three : (f g h : List ℕ → Got Three) (m : List ℕ) (j : Rest → List ℕ → Got Row)
    → and_then (read_seq f (read_seq g h) m) j ≡ and_then (f m) (λ v k. and_then (g k) (λ d l. and_then (h l) (λ s r. j (v, (d, s)) r)))
flat-three f g h m j = simp then-then

flat-short : (f : List ℕ → Got Three) (test : Rest → Bool) (m : List ℕ) (j : Rest → List ℕ → Got Row)
    → and_then (read_if test (read_as (λ s. (all_nr, (all_nr, s))) f) m) j
    ≡ and_then (f m) (λ s r. and_then (guard (test (all_nr, (all_nr, s))) (got (all_nr, (all_nr, s)) r)) j)
flat-short f test m j = simp then-then

-- behind the codes, where time, runway and codes are those of a row
module _ (t : ℕ) (p : ℕ × ℕ) (c : Three) (real : real_time t ≡ true) (known : is_runway p ≡ true) (coded : each is_code c ≡ true) where
  full-same : (m : List ℕ) → forget (behind_codes false c (made t p c) m) ≡ and_then (read_full m) (λ rest r. from_width (made t p c) rest r)
  unfolding coverage_group depth_group description_group read_full
  full-same m = group-step wrong_coverage_or_depth (skip m) (read_group Coverages m) (each may_cover) _ _
      (λ v m₄ e₄ h₄ q₄. group-step wrong_coverage_or_depth (skip m₄) (read_group Depths m₄) (each may_lie) _ _
      (λ d m₅ e₅ h₅ q₅. fit-step wrong_descriptions (skip m₅) (read_group Descriptions m₅) _ _
      (λ s m₆ e₆. demand-step (all valid_coverage (make_thirds c (v, (d, s)))) wrong_coverage_or_depth (skip m) _ _
      (λ a. demand-step (all valid_depth (make_thirds c (v, (d, s)))) wrong_coverage_or_depth (skip m₄) _ _
      (λ b. width_same (made t p c) (v, (d, s)) m₆ (λ w l. row-valid t p c v d s w real known coded (descriptions-laws.sound e₆).0 a b l))
      (λ b. width-none (made t p c) (v, (d, s)) m₆ (λ w h. true-false (sym (row-parts t p c v d s w h).thirds.lies ∙ b))))
      (λ a. width-none (made t p c) (v, (d, s)) m₆ (λ w h. true-false (sym (row-parts t p c v d s w h).thirds.covers ∙ a)))))
      (λ d m₅ e₅ off. then-none (read_group Descriptions m₅) (λ s m₆ e₆.
      width-none (made t p c) (v, (d, s)) m₆ (λ w h. true-false (sym (row-parts t p c v d s w h).thirds.depths ∙ off))))
      (λ d m₅ e₅ off. rw (group-glued Descriptions m₅ off)))
      (λ v m₄ e₄ off. then-none (read_group Depths m₄) (λ d m₅ e₅. then-none (read_group Descriptions m₅) (λ s m₆ e₆.
      width-none (made t p c) (v, (d, s)) m₆ (λ w h. true-false (sym (row-parts t p c v d s w h).thirds.coverages ∙ off)))))
      (λ v m₄ e₄ off. rw (group-glued Depths m₄ off))
      ∙ sym (flat-three (read_group Coverages) (read_group Depths) (read_group Descriptions) m (from_width (made t p c)))

  short-same : (m : List ℕ) → forget (behind_codes true c (made t p c) m) ≡ and_then (read_short c m) (λ rest r. from_width (made t p c) rest r)
  unfolding description_group read_short
  short-same m = fit-step wrong_descriptions (skip m) (read_group Descriptions m) _ _
      (λ s k e. go s k (descriptions-laws.sound e).0 (is_short (make_thirds c (all_nr, (all_nr, s)))))
      ∙ sym (flat-short (read_group Descriptions) (λ rest. is_short (make_thirds c rest)) m (from_width (made t p c)))
    where
      ended : Three → List ℕ → Out Row
      ended s k = group wrong_width width_group k (λ w r. demand (is_empty r) wrong_width (skip r) (taken (made t p c (all_nr, (all_nr, s)) w)))

      go : (s : Three) (k : List ℕ) → Shown Descriptions s → (b : Bool)
          → forget (demand b wrong_coverage_or_depth (skip m)
          (demand (all valid_coverage (make_thirds c (all_nr, (all_nr, s)))) wrong_coverage_or_depth (skip m)
          (demand (all valid_depth (make_thirds c (all_nr, (all_nr, s)))) wrong_coverage_or_depth (skip m) (ended s k))))
          ≡ and_then (guard b (got (all_nr, (all_nr, s)) k)) (λ rest r. from_width (made t p c) rest r)
      go s k x true = rw (bare-covers c s, bare-lies c s) (width_same (made t p c) (all_nr, (all_nr, s)) k
          (λ w l. row-valid t p c all_nr all_nr s w real known coded x (bare-covers c s) (bare-lies c s) l))
      go s k x false = refl

  -- the short form of a row that is not short leaves something
  short-off : (m : List ℕ) → short m ≡ false → and_then (read_short c m) (λ rest r. from_width (made t p c) rest r) ≡ misfit
  unfolding read_short from_width
  short-off m off = flat-short (read_group Descriptions) (λ rest. is_short (make_thirds c rest)) m (from_width (made t p c))
      ∙ then-none (read_group Descriptions m) (λ s r e. go s r e (is_short (make_thirds c (all_nr, (all_nr, s)))))
    where
      left : (s : Three) (r : List ℕ) → read_group Descriptions m ≡ got s r → (w : ℕ) (k : List ℕ) → read_width r ≡ got w k
          → judge (made t p c (all_nr, (all_nr, s)) w) k ≡ misfit
      left s r e w [] f = true-false (sym (short-is m e f) ∙ off)
      left s r e w (x ∷ k) f = judge-more (made t p c (all_nr, (all_nr, s)) w) x k

      go : (s : Three) (r : List ℕ) → read_group Descriptions m ≡ got s r → (b : Bool)
          → and_then (guard b (got (all_nr, (all_nr, s)) r)) (λ rest r. from_width (made t p c) rest r) ≡ misfit
      go s r e true = then-none (read_width r) (λ w k f. left s r e w k f)
      go s r e false = refl

  behind-same : (m : List ℕ) → forget (behind_codes (short m) c (made t p c) m) ≡ from_rest c (made t p c) m
  unfolding from_rest
  behind-same m = go (short m) refl
    where
      other : (g h : Got Rest) (j : Rest → List ℕ → Got Row) → and_then h j ≡ misfit → and_then g j ≡ and_then (or_else g h) j
      other misfit h j e = sym e
      other (got a r) h j e = refl

      go : (b : Bool) → short m ≡ b
          → forget (behind_codes b c (made t p c) m) ≡ and_then (or_else (read_full m) (read_short c m)) (λ rest r. from_width (made t p c) rest r)
      go true q = let b = short_has m q in rw (full-misfit m b.first (no-depth m b)) (short-same m)
      go false q = full-same m ∙ other (read_full m) (read_short c m) _ (short-off m q)

-- the rows of lines that are not taken
rest-none : (c : Three) (row : Rest → ℕ → Row) (m : List ℕ) → ((rest : Rest) (w : ℕ) → valid_row (row rest w) ≡ true → ⊥) → from_rest c row m ≡ misfit
unfolding from_rest
rest-none c row m off = then-none (read_rest c m) (λ rest r e. width-none row rest r (off rest))

rest-glued : (c : Three) (row : Rest → ℕ → Row) (m : List ℕ) → parted m ≡ false → from_rest c row m ≡ misfit
unfolding from_rest read_full read_short
rest-glued c row m h = rw (group-glued Coverages m h, group-glued Descriptions m h)

codes-none : (t : ℕ) (p : ℕ × ℕ) (m : List ℕ) → ((c : Three) (rest : Rest) (w : ℕ) → valid_row (made t p c rest w) ≡ true → ⊥) → from_codes t p m ≡ misfit
unfolding from_codes
codes-none t p m off = then-none (read_group Codes m) (λ c r e. rest-none c (made t p c) r (off c))

-- "Which messages are accepted stays": a line is taken exactly if it is a row, as that row
pub row_same : (line : List ℕ) → forget (find_row line) ≡ whole_row line
unfolding find_row time_group runway_group code_group from_runway from_codes made
row_same line = group-step no_row line (read_digits 8 line) real_time _ _
    (λ t m₁ e₁ real q₁. group-step wrong_runway (skip m₁) (read_gap read_runway m₁) is_runway _ _
    (λ p m₂ e₂ known q₂. group-step wrong_codes (skip m₂) (read_group Codes m₂) (each is_code) _ _
    (λ c m₃ e₃ coded q₃. behind-same t p c real known coded m₃)
    (λ c m₃ e₃ off. rest-none c (made t p c) m₃ (λ rest w h.
    true-false (sym (row-parts t p c rest.0 rest.1.0 rest.1.1 w h).thirds.codes ∙ off)))
    (λ c m₃ e₃ off. rest-glued c (made t p c) m₃ off))
    (λ p m₂ e₂ off. codes-none t p m₂ (λ c rest w h. true-false (sym (row-parts t p c rest.0 rest.1.0 rest.1.1 w h).runway ∙ off)))
    (λ p m₂ e₂ off. rw (group-glued Codes m₂ off)))
    (λ t m₁ e₁ off. then-none (read_gap read_runway m₁) (λ p m₂ e₂. codes-none t p m₂ (λ c rest w h.
    true-false (sym (row-parts t p c rest.0 rest.1.0 rest.1.1 w h).time ∙ off))))
    (λ t m₁ e₁ off. rw (gap-glued read_runway m₁ off))
    ∙ sym (row-flat line)

-- so a line that is taken is that row
pub row-taken : (line : List ℕ) {r : Row} → find_row line ≡ taken r → whole_row line ≡ got r []
row-taken line e = sym (row_same line) ∙ ap forget e

-- and a row is taken
pub row-found : (line : List ℕ) {r : Row} {k : List ℕ} → whole_row line ≡ got r k → find_row line ≡ taken r
row-found line {r} e = go (find_row line) (row_same line ∙ e)
  where
    go : (o : Out Row) {k : List ℕ} → forget o ≡ got r k → o ≡ taken r
    go (refuse n left) f = no-misfit f
    go (taken s) f = carry (λ q _. taken s ≡ taken q) f refl

-- what holds of every row that the groups may make holds of the one that they make
module _ (P : Row → Type 0) where
  judge-all : (q : Row) (k : List ℕ) {r : Row} {s : List ℕ} → P q → judge q k ≡ got r s → P r
  unfolding judge
  judge-all q k {r} {s} h e = go (valid_row q) k e
    where
      go : (b : Bool) (k : List ℕ) → and_then (guard b (got q k)) (λ a l. whole (got a l)) ≡ got r s → P r
      go true [] f = carry (λ x _. P x) f h
      go true (x ∷ k) f = no-misfit f
      go false k f = no-misfit f

  width-all : (row : Rest → ℕ → Row) (rest : Rest) (m : List ℕ) {r : Row} {s : List ℕ} → ((w : ℕ) → P (row rest w)) → from_width row rest m ≡ got r s → P r
  unfolding from_width
  width-all row rest m h e = let f = then-got (read_width m) e in judge-all (row rest f.val) f.mid (h f.val) f.two

  codes_all : (t : ℕ) (p : ℕ × ℕ) (m : List ℕ) {r : Row} {s : List ℕ} → ((c : Three) (rest : Rest) (w : ℕ) → P (made t p c rest w))
      → from_codes t p m ≡ got r s → P r
  unfolding from_codes from_rest
  codes_all t p m h e =
      let c = then-got (read_group Codes m) e in
      let d = then-got (read_rest c.val c.mid) c.two in
      width-all (made t p c.val) d.val d.mid (h c.val d.val) d.two

-- where the runway of a row that is taken stands: behind the time's digits and the spaces
pub record Runway (line : List ℕ) (r : Row) : Type 0 where
  pub behind : List ℕ
  pub rest : List ℕ
  pub time : read_digits 8 line ≡ got r.time behind
  pub runway : read_runway (skip behind) ≡ got (r.number, r.side) rest

pub row-runway : (line : List ℕ) {r : Row} → find_row line ≡ taken r → Runway line r
unfolding from_runway made
row-runway line {r} e =
    let a = then-got (read_digits 8 line) (sym (row-flat line) ∙ row-taken line e) in
    let b = then-got (read_gap read_runway a.mid) a.two in
    let i : (r.time ≡ a.val) × ◌≡◌ {A = ℕ × ℕ} (r.number, r.side) b.val =
    codes_all (λ q. (q.time ≡ a.val) × ◌≡◌ {A = ℕ × ℕ} (q.number, q.side) b.val) a.val b.val b.mid (λ c rest w. (refl, refl)) b.two in
    record {
      behind = a.mid;
      rest = b.mid;
      time = a.one ∙ ap (λ t. got t a.mid) (sym i.0);
      runway = gap-skip read_runway a.mid b.one ∙ ap (λ p. got p b.mid) (sym i.1);
    }
