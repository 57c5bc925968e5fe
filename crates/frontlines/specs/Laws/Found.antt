-- What the answer of a line's reader says.
use Rattle.std.specs.Prelude.{◌≡◌, refl, [], ◌∷◌, None, Some}
use Rattle.text.specs.Read.{Got, misfit, got, whole}
use Rattle.frontlines.specs.Code.Answers.{found}

-- nothing is found where the line does not fit
pub found-none : {A : Type 0} (g : Got A) → None ≡ found (whole g) → whole g ≡ misfit
found-none misfit e = refl
found-none (got a []) e = cc
found-none (got a (x ∷ r)) e = refl

-- and what is found is what the whole line says
pub found-some : {A : Type 0} (g : Got A) {a : A} → Some a ≡ found (whole g) → whole g ≡ got a []
found-some misfit e = cc
found-some (got b []) e = cc
found-some (got b (x ∷ r)) e = cc
