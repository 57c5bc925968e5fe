-- What is known of what was taken, and of what was refused: its number, and that what was left is an end of the message.
use Rattle.std.specs.Prelude.{ℕ, ◌<◌, ◌≤◌, ◌≡◌, refl, List, [], ◌∷◌, cond, Bool, true, false, leb}
use Rattle.std.proofs.Common.{subst, leb-true, leb-false, arith}
use Rattle.text.specs.Choice.{◌and◌}
use Rattle.text.specs.Read.{Got, misfit, got, whole}
use Rattle.text.specs.Lines.{Cut, text, onward}
use Rattle.text.specs.Out.{Out, refuse, taken, next, fit, demand, before, read_line, at_end, After, finished, more}
use Rattle.text.specs.Laws.Base.{and-1, and-2}
use Rattle.text.specs.Laws.Left.{Left, left-none}
use Rattle.text.specs.Laws.Cuts.{Ends}
use Rattle.text.specs.Laws.Cuts as Cuts

-- inversion of what is taken
pub no-refuse : {A C : Type 0} {n : ℕ} {left : List ℕ} {a : A} → refuse n left ≡ taken a → C
no-refuse e = let z : ◌≡◌ {A = ℕ} 0 1 = cc in absurd (omega arith)

pub refused-left : {A : Type 0} {n k : ℕ} {left rest : List ℕ} → ◌≡◌ {A = Out A} (refuse n left) (refuse k rest) → (n ≡ k) × (left ≡ rest)
refused-left e = (cc, cc)

pub took : {A : Type 0} (Q : A → Type 0) {a b : A} → taken a ≡ taken b → Q a → Q b
took Q {a} {b} e h = let p : a ≡ b = cc in subst Q p h

pub record Fit {A B : Type 0} (g : Got A) (f : A → List ℕ → Out B) (b : B) : Type 0 where
  pub val : A
  pub rest : List ℕ
  pub one : g ≡ got val rest
  pub two : f val rest ≡ taken b

pub fit-took : {A B : Type 0} (n : ℕ) (left : List ℕ) (g : Got A) {f : A → List ℕ → Out B} {b : B} → fit n left g f ≡ taken b → Fit g f b
fit-took n left misfit e = no-refuse e
fit-took n left (got a r) e = record { val = a; rest = r; one = refl; two = e }

pub demand-took : {A : Type 0} (t : Bool) (n : ℕ) (left : List ℕ) {o : Out A} {a : A} → demand t n left o ≡ taken a → (t ≡ true) × (o ≡ taken a)
demand-took true n left e = (refl, e)
demand-took false n left e = no-refuse e

pub record Next {A B : Type 0} (o : Out A) (f : A → Out B) (b : B) : Type 0 where
  pub val : A
  pub one : o ≡ taken val
  pub two : f val ≡ taken b

pub next-took : {A B : Type 0} (o : Out A) {f : A → Out B} {b : B} → next o f ≡ taken b → Next o f b
next-took (refuse n left) e = no-refuse e
next-took (taken a) e = record { val = a; one = refl; two = e }

pub before-took : {A : Type 0} (behind : List ℕ) (o : Out A) {a : A} → before behind o ≡ taken a → o ≡ taken a
before-took behind (refuse n left) e = no-refuse e
before-took behind (taken b) e = e

pub end-took : {A : Type 0} (cs : List Cut) {a b : A} → at_end cs a ≡ taken b → (cs ≡ []) × (taken a ≡ taken b)
end-took [] e = (refl, e)
end-took (c ∷ cs) e = no-refuse e

-- refused by one of these numbers where an end of m is left, or what is taken is good
pub data Within (number : ℕ → Bool) (m : List ℕ) {A : Type 0} (good : A → Type 0) : Out A → Type 0 where
  stopped : {n : ℕ} {left : List ℕ} → number n ≡ true → Left m left → Within number m good (refuse n left)
  passed : {a : A} → good a → Within number m good (taken a)

abbrev pub Any : {A : Type 0} → A → Type 0
Any a = Unit {0}

module _ (number : ℕ → Bool) (m : List ℕ) {B : Type 0} (good : B → Type 0) where
  pub fit-within : {A : Type 0} (n : ℕ) (left : List ℕ) (g : Got A) (k : A → List ℕ → Out B) → number n ≡ true → Left m left
      → ((a : A) (r : List ℕ) → g ≡ got a r → Within number m good (k a r)) → Within number m good (fit n left g k)
  fit-within n left misfit k h t w = stopped h t
  fit-within n left (got a r) k h t w = w a r refl

  pub demand-within : (b : Bool) (n : ℕ) (left : List ℕ) (o : Out B) → number n ≡ true → Left m left → Within number m good o
      → Within number m good (demand b n left o)
  demand-within true n left o h t w = w
  demand-within false n left o h t w = stopped h t

  pub cond-within : (b : Bool) (x y : Out B) → Within number m good x → Within number m good y → Within number m good (cond b x y)
  cond-within true x y h k = h
  cond-within false x y h k = k

  pub next-within : {A : Type 0} (was : A → Type 0) (o : Out A) (k : A → Out B) → Within number m was o → ((a : A) → was a → Within number m good (k a))
      → Within number m good (next o k)
  next-within was (refuse n left) k (stopped h t) w = stopped h t
  next-within was (taken a) k (passed h) w = w a h

  pub line-within : {A : Type 0} (n : ℕ) (f : List ℕ → Got A) (cs : List Cut) (k : A → Cut → List Cut → Out B) → number n ≡ true → Ends m cs
      → ((a : A) (c : Cut) (cs : List Cut) → Left m (onward c) → Ends m cs → Within number m good (k a c cs)) → Within number m good (read_line n f cs k)
  line-within n f [] k h e w = stopped h (left-none m)
  line-within n f (c ∷ cs) k h (Cuts.more t e) w = fit-within n (onward c) (whole (f (text c))) _ h t (λ a r _. w a c cs t e)

-- the numbers of a refused reading: 1 to 12, or 24 to 28
unfoldable pub is_number : ℕ → Bool
is_number n = cond (leb n 12) (leb 1 n) (leb 24 n and leb n 28)

pub number-range : (n : ℕ) → is_number n ≡ true → (n ≤ 12 → 1 ≤ n) × (12 < n → 24 ≤ n) × (n ≤ 28)
unfolding is_number
number-range n h = go (leb n 12) refl h
  where
    go : (b : Bool) → leb n 12 ≡ b → cond b (leb 1 n) (leb 24 n and leb n 28) ≡ true → (n ≤ 12 → 1 ≤ n) × (12 < n → 24 ≤ n) × (n ≤ 28)
    go true e k = let x = leb-true n 12 e in let y = leb-true 1 n k in (omega arith, omega arith, omega arith)
    go false e k =
        let x = leb-false n 12 e in
        let y = leb-true 24 n (and-1 (leb 24 n) (leb n 28) k) in
        let z = leb-true n 28 (and-2 (leb 24 n) (leb n 28) k) in
        (omega arith, omega arith, omega arith)

-- bytes after the end, and the lines that are left where the rows end
pub end-within : (m : List ℕ) {A : Type 0} (good : A → Type 0) (cs : List Cut) (a : A) → Ends m cs → good a → Within is_number m good (at_end cs a)
unfolding is_number
end-within m good [] a e h = passed h
end-within m good (c ∷ cs) a (Cuts.more t e) h = stopped refl t

abbrev pub EndsAfter : List ℕ → After → Type 0
EndsAfter m finished = Unit {0}
EndsAfter m (more cs) = Ends m cs
