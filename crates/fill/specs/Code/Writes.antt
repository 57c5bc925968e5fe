-- What is said of a writer that is lent a buffer.
use Rattle.std.specs.Prelude.{ℕ, List}
use Rattle.text.specs.Put.{Put}

-- whatever buffer the writer is lent, it puts the text t at its front and answers the place behind it
abbrev pub Writes : (List ℕ → ℕ → List ℕ → Type 0) → List ℕ → Type 0
Writes call t = (old new : List ℕ) (n : ℕ) → call old n new → Put 0 t old new n
