-- What the iterators find in a table, in the words of text `Choice`.
use Rattle.std.specs.Prelude.{◌≡◌, refl, List, [], ◌∷◌, Option, Some, None, MatchOption, Bool, true, false, cond, ◌||◌}
use Rattle.std.proofs.Common.{ap, ◌∙◌}
use Rattle.std.specs.List.{list_any, find}
use Rattle.std.specs.Option.{option_map}
use Rattle.text.specs.Choice.{first_fitting}

pub any-fitting : {L : Type 0} (test : L → Bool) (es : List L) → list_any test es ≡ first_fitting test (λ _. true) false es
any-fitting test [] = refl
any-fitting test (e ∷ es) = go (test e) (any-fitting test es)
  where
    go : (b : Bool) {u v : Bool} → u ≡ v → (b || u) ≡ cond b true v
    go true p = refl
    go false p = p

module _ {L A : Type 0} (test : L → Bool) (gives : L → A) (else : A) where
  -- what is given of an element, if there is one
  abbrev given : Option L → A
  given None = else
  given (Some e) = gives e

  find-fitting : (es : List L) → given (find test es) ≡ first_fitting test gives else es
  find-fitting [] = refl
  find-fitting (e ∷ es) = go (test e) (find test es) (find-fitting es)
    where
      go : (b : Bool) (u : Option L) {v : A} → given u ≡ v → given (cond b (Some e) u) ≡ cond b (gives e) v
      go true u p = refl
      go false u p = p

  -- of what `find` found, borrowed, `map_or` made x
  pub found : {B : Type 0} {Q : B → Type 0} (now : B → L) (es : List L) (x : A) (r : Option B) → option_map now r ≡ find test es
      → MatchOption r (x ≡ else) Q → ((b : B) → Q b → x ≡ gives (now b)) → x ≡ first_fitting test gives else es
  found now es x None e m q = m ∙ (ap given e ∙ find-fitting es)
  found now es x (Some b) e m q = q b m ∙ (ap given e ∙ find-fitting es)
