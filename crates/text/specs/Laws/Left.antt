-- What is left of a message is its end, and where that starts.
use Rattle.std.specs.Prelude.{ℕ, zero, suc, ◌+◌, ◌-◌, ◌≤◌, ◌≡◌, refl, List, [], ◌∷◌, ◌++◌, cond, Bool, true, false, eqb, length, drop}
use Rattle.std.proofs.Common.{length-drop, length-append, arith, eqb-true}
use Rattle.text.specs.Piece.{Spaces, none, more}
use Rattle.text.specs.Read.{Got, misfit, got, guard, and_then, skip, left_by, read_text, read_seq, read_gap}
use Rattle.text.specs.Numbers.{is_digit, read_digit, read_digits}
use Rattle.text.specs.Laws.Base.{skip-spaces, no-misfit, guard-got, then-got, carry, true-false}
use Rattle.text.specs.Choice.{is_empty}
use Rattle.text.specs.Out.{place}

-- r is left of m: m ends by r
pub data Left : List ℕ → List ℕ → Type 0 where
  here : {r : List ℕ} → Left r r
  later : {x : ℕ} {m r : List ℕ} → Left m r → Left (x ∷ m) r

pub left-trans : {a b c : List ℕ} → Left a b → Left b c → Left a c
left-trans here t = t
left-trans (later s) t = later (left-trans s t)

pub left-none : (m : List ℕ) → Left m []
left-none [] = here
left-none (x ∷ m) = later (left-none m)

pub left-append : {m r : List ℕ} (b : List ℕ) → Left m r → Left (m ++ b) (r ++ b)
left-append b here = here
left-append b (later t) = later (left-append b t)

pub left-short : {m r : List ℕ} → Left m r → length r ≤ length m
left-short here = omega arith
left-short (later t) = let k = left-short t in omega arith

left-drop : {m r : List ℕ} → Left m r → (n : ℕ) → length m ≡ n + length r → drop n m ≡ r
left-drop here zero e = refl
left-drop here (suc n) e = absurd (omega arith)
left-drop (later t) zero e = let k = left-short t in absurd (omega arith)
left-drop (later t) (suc n) e = left-drop t n (omega arith)

-- the place of what is left: as many bytes stand before it
pub left-place : {m r : List ℕ} → Left m r → drop (place m r) m ≡ r
left-place {m} {r} t = let k = left-short t in left-drop t (place m r) (omega arith)

-- and the same with more behind both
pub left_there : {m r : List ℕ} (b : List ℕ) → Left m r → drop (place m r) (m ++ b) ≡ r ++ b
left_there {m} {r} b t =
    let k = left-short t in
    left-drop (left-append b t) (place m r) (omega (arith, length-append m b, length-append r b))

pub drop-place : (at : ℕ) (m : List ℕ) → at ≤ length m → place m (drop at m) ≡ at
drop-place at m h = omega (arith, length-drop at m)

-- typings
pub spaces-left : {m r : List ℕ} → Spaces m r → Left m r
spaces-left none = here
spaces-left (more s) = later (spaces-left s)

pub skip-left : (m : List ℕ) → Left m (skip m)
skip-left m = spaces-left (skip-spaces m)

-- what a reader leaves
pub left_by_lem : {A : Type 0} (g : Got A) (m : List ℕ) → ((a : A) (r : List ℕ) → g ≡ got a r → Left m r) → Left m (left_by g)
left_by_lem misfit m h = left-none m
left_by_lem (got a r) m h = h a r refl

pub seq-left : {A B : Type 0} (f : List ℕ → Got A) (g : List ℕ → Got B) (m : List ℕ) → ((a : A) (r : List ℕ) → f m ≡ got a r → Left m r)
    → ((k : List ℕ) (b : B) (r : List ℕ) → g k ≡ got b r → Left k r)
    → (p : A × B) (r : List ℕ) → read_seq f g m ≡ got p r → Left m r
seq-left f g m hf hg p r e =
    let x = then-got (f m) e in
    let y = then-got (g x.mid) x.two in
    left-trans (hf x.val x.mid x.one) (carry (λ _ s. Left x.mid s) y.two (hg x.mid y.val y.mid y.one))

-- behind a gap: the first byte that is no space
pub gap-skip : {A : Type 0} (f : List ℕ → Got A) (m : List ℕ) {a : A} {r : List ℕ} → read_gap f m ≡ got a r → f (skip m) ≡ got a r
unfolding read_text skip
gap-skip f [] e = no-misfit e
gap-skip {A} f (x ∷ m) e = go (eqb 32 x) refl e
  where
    go : (b : Bool) → eqb 32 x ≡ b → {a : A} {r : List ℕ} → and_then {A = Unit {0}} (guard b (got tt (skip m))) (λ _ k. f k) ≡ got a r
        → f (cond (eqb x 32) (skip m) (x ∷ m)) ≡ got a r
    go true h q = rw (← eqb-true 32 x h) q
    go false h q = no-misfit q

-- what passes a test is read
pub if-got : {A : Type 0} (test : A → Bool) (g : Got A) {a : A} {r : List ℕ} → and_then g (λ a r. guard (test a) (got a r)) ≡ got a r → g ≡ got a r
if-got test misfit e = no-misfit e
if-got test (got b s) e = (guard-got (test b) e).1

-- digits are as many bytes
pub digits-size : (n : ℕ) (m : List ℕ) {v : ℕ} {r : List ℕ} → read_digits n m ≡ got v r → length m ≡ n + length r
unfolding read_digits
digits-size zero m e = let z = carry (λ _ s. length m ≡ length s) e refl in omega arith
digits-size (suc n) m {v} {r} e =
    let x = then-got (read_seq (read_digits n) read_digit m) e in
    let y = then-got (read_digits n m) x.one in
    let z = then-got (read_digit y.mid) y.two in
    let l = digits-size n m y.one in
    let k = digit-size y.mid z.one in
    let q = carry (λ _ s. length z.mid ≡ length s) z.two refl in
    let w = carry (λ _ s. length x.mid ≡ length s) x.two refl in
    omega arith
  where
    digit-size : (m : List ℕ) {v : ℕ} {r : List ℕ} → read_digit m ≡ got v r → length m ≡ suc (length r)
    digit-size [] e = no-misfit e
    digit-size (x ∷ m) e = go (is_digit x) e
      where
        go : (b : Bool) {v : ℕ} {r : List ℕ} → and_then (guard b (got x m)) (λ c r. got (c - 48) r) ≡ got v r → suc (length m) ≡ suc (length r)
        go true f = carry (λ _ s. suc (length m) ≡ suc (length s)) f refl
        go false f = no-misfit f

pub skip-more : (m b : List ℕ) → is_empty (skip m) ≡ false → skip (m ++ b) ≡ skip m ++ b
unfolding skip
skip-more [] b h = true-false h
skip-more (x ∷ m) b h = go (eqb x 32) h (skip-more m b)
  where
    go : (t : Bool) → is_empty (cond t (skip m) (x ∷ m)) ≡ false → (is_empty (skip m) ≡ false → skip (m ++ b) ≡ skip m ++ b)
        → cond t (skip (m ++ b)) (x ∷ (m ++ b)) ≡ cond t (skip m) (x ∷ m) ++ b
    go true k ih = ih k
    go false k ih = refl
