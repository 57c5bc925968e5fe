-- A value, or the number of a refusal: a record has no lines, so none is told with a place.
use Rattle.std.specs.Prelude.{ℕ, Bool, cond}

-- refused by a number, or taken
pub data Outcome (A : Type 0) : Type 0 where
  refuse : ℕ → Outcome A
  taken : A → Outcome A

-- what is taken goes on to f
abbrev pub next : {A B : Type 0} → Outcome A → (A → Outcome B) → Outcome B
next (refuse n) f = refuse n
next (taken a) f = f a

-- refused by n unless the test holds
abbrev pub need : {A : Type 0} → ℕ → Bool → Outcome A → Outcome A
need n t o = cond t o (refuse n)

-- the number of a refusal, 0 for none
abbrev pub refusal : {A : Type 0} → Outcome A → ℕ
refusal (refuse n) = n
refusal (taken a) = 0
