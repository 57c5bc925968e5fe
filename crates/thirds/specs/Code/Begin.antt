-- The descriptions that begin alike: what the code tries where their first byte stands.
use Rattle.std.specs.Prelude.{ℕ, List, [], ◌∷◌, Bool, true, eqb, filter}
use Rattle.surface.specs.Descriptions.{description_name}
use Rattle.thirds.specs.Groups.{description_order}

-- a text can stand where the byte b does
abbrev pub can : ℕ → List ℕ → Bool
can b [] = true
can b (c ∷ cs) = eqb c b

-- the descriptions that can, in the order in which they are tried
unfoldable pub beginning : ℕ → List ℕ
beginning b = filter (λ d. can b (description_name d)) description_order
