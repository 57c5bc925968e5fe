-- A number in groups of seven bits: document 02, request 7.
use Rattle.std.specs.Prelude.{ℕ, zero, suc, ◌+◌, ◌-◌, ◌*◌, ◌/◌, ◌%◌, List, [], ◌∷◌, Bool, cond, ltb, leb}
use Rattle.text.specs.Refusals.{cut_short, number_form}
use Rattle.radio.specs.Outcome.{Outcome, refuse, taken, next, need}

-- what was read from the front of a record, and what is left behind it
pub record Part (A : Type 0) : Type 0 where
  pub value : A
  pub rest : List ℕ

-- the two put together
abbrev pub part : {A : Type 0} → A → List ℕ → Part A
part a m = record { value = a; rest = m }

-- a byte
abbrev pub is_byte : ℕ → Bool
is_byte x = ltb x 256

-- "groups of seven bits, low group first, the high bit set on all but the last group": up to n groups before the last
unfoldable pub groups : ℕ → ℕ → List ℕ
groups zero x = x ∷ []
groups (suc n) x = cond (ltb x 128) (x ∷ []) ((x % 128 + 128) ∷ groups n (x / 128))

-- the bytes of a number: at most three groups
abbrev pub number_bytes : ℕ → List ℕ
number_bytes x = groups 2 x

-- a group with its high bit set, and the number behind it, if one may stand there: the whole number
abbrev pub higher : ℕ → Outcome (Part ℕ) → Outcome (Part ℕ)
higher x o = next o (λ p. taken (part (x - 128 + 128 * p.value) p.rest))

-- up to n groups before the last, which is least or more: the number, and what is left
unfoldable pub read_groups : ℕ → ℕ → List ℕ → Outcome (Part ℕ)
-- "record cut short"
read_groups n least [] = refuse cut_short
-- "a number with a last group of zero after another, or a third group with its high bit set"
read_groups zero least (x ∷ m) = need number_form (ltb x 128) (need number_form (leb least x) (taken (part x m)))
read_groups (suc n) least (x ∷ m) = cond (ltb x 128) (need number_form (leb least x) (taken (part x m))) (higher x (read_groups n 1 m))

-- a number and what is left: only of a group alone is zero a number
abbrev pub read_number : List ℕ → Outcome (Part ℕ)
read_number m = read_groups 2 0 m
