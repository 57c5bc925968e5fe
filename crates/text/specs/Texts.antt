-- Texts that are tried one after the other.
use Rattle.std.specs.Prelude.{ℕ, List, [], ◌∷◌, ◌++◌}
use Rattle.text.specs.Read.{Got, misfit, or_else, read_word}

-- texts, each with its value
abbrev pub Texts : Type 0
Texts = List (List ℕ × ℕ)

-- the first of them that stands here
abbrev pub read_first : Texts → List ℕ → Got ℕ
read_first [] m = misfit
read_first (t ∷ ts) m = or_else (read_word t.0 t.1 m) (read_first ts m)

-- each with p before it
abbrev pub behind : List ℕ → Texts → Texts
behind p [] = []
behind p (t ∷ ts) = (p ++ t.0, t.1) ∷ behind p ts

-- names, each with its number
abbrev pub named : (ℕ → List ℕ) → List ℕ → Texts
named name [] = []
named name (n ∷ ns) = (name n, n) ∷ named name ns
