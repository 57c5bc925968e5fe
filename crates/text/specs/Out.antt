-- Reading line by line: a value, or the number of the refusal and what was left where it arose. "The first line that doesn't fit decides."
use Rattle.std.specs.Prelude.{ℕ, ◌-◌, List, [], ◌∷◌, ◌++◌, Bool, true, false, length}
use Rattle.text.specs.Read.{Got, misfit, got, whole}
use Rattle.text.specs.Lines.{Cut, text, onward}
use Rattle.text.specs.Refusals.{outline}

-- refused by a number where this was left of the message, or taken
pub data Out (A : Type 0) : Type 0 where
  refuse : ℕ → List ℕ → Out A
  taken : A → Out A

-- "a byte place": how many bytes of m stand before what was left
abbrev pub place : List ℕ → List ℕ → ℕ
place m left = length m - length left

-- what is taken goes on to f
abbrev pub next : {A B : Type 0} → Out A → (A → Out B) → Out B
next (refuse n left) f = refuse n left
next (taken a) f = f a

-- n where this is left, if it does not fit
abbrev pub fit : {A B : Type 0} → ℕ → List ℕ → Got A → (A → List ℕ → Out B) → Out B
fit n left misfit f = refuse n left
fit n left (got a r) f = f a r

-- n where this is left, if the test fails
abbrev pub demand : {A : Type 0} → Bool → ℕ → List ℕ → Out A → Out A
demand true n left o = o
demand false n left o = refuse n left

-- the same in a longer text, in which this stands behind
abbrev pub before : {A : Type 0} → List ℕ → Out A → Out A
before behind (refuse n left) = refuse n (left ++ behind)
before behind (taken a) = taken a

-- the next line, read whole: n at "the line's first byte" where it does not fit, "for a missing line .. the message's length"
abbrev pub read_line : {A B : Type 0} → ℕ → (List ℕ → Got A) → List Cut → (A → Cut → List Cut → Out B) → Out B
read_line n f [] k = refuse n []
read_line n f (c ∷ cs) k = fit n (onward c) (whole (f (text c))) (λ a _. k a c cs)

-- "for bytes after the end the first of them": nothing may stand behind the line that `)` closes
abbrev pub at_end : {A : Type 0} → List Cut → A → Out A
at_end [] a = taken a
at_end (c ∷ cs) a = refuse outline (onward c)

-- the rows end by `)`, or by an empty line with these lines behind it
pub data After : Type 0 where
  finished : After
  more : List Cut → After
