-- What is known of what was taken.
use Rattle.std.specs.Prelude.{ℕ, ◌≡◌, refl, Bool, true, false}
use Rattle.std.proofs.Common.{subst, arith}
use Rattle.radio.specs.Outcome.{Outcome, refuse, taken, next, need}

pub no-refuse : {A C : Type 0} {n : ℕ} {a : A} → refuse n ≡ taken a → C
no-refuse e = let z : ◌≡◌ {A = ℕ} 0 1 = cc in absurd (omega arith)

pub took : {A : Type 0} (Q : A → Type 0) {a b : A} → taken a ≡ taken b → Q a → Q b
took Q {a} {b} e h = let p : a ≡ b = cc in subst Q p h

pub record Next {A B : Type 0} (o : Outcome A) (f : A → Outcome B) (b : B) : Type 0 where
  pub val : A
  pub one : o ≡ taken val
  pub two : f val ≡ taken b

pub next-took : {A B : Type 0} (o : Outcome A) {f : A → Outcome B} {b : B} → next o f ≡ taken b → Next o f b
next-took (refuse n) e = no-refuse e
next-took (taken a) e = record { val = a; one = refl; two = e }

pub need-took : {A : Type 0} (n : ℕ) (t : Bool) {o : Outcome A} {a : A} → need n t o ≡ taken a → (t ≡ true) × (o ≡ taken a)
need-took n true e = (refl, e)
need-took n false e = no-refuse e

pub need-refused : {A : Type 0} (n k : ℕ) (t : Bool) {o : Outcome A} → need n t o ≡ refuse k → (n ≡ k → ⊥) → (t ≡ true) × (o ≡ refuse k)
need-refused n k true e h = (refl, e)
need-refused n k false e h = let z : n ≡ k = cc in absurd (h z)

pub refused-by : {A : Type 0} {n k : ℕ} → ◌≡◌ {A = Outcome A} (refuse n) (refuse k) → n ≡ k
refused-by e = cc
