use Rattle.std.specs.Prelude.{◌≡◌, List, [], ◌∷◌, Bool, false, length, get_or}
use Rattle.std.proofs.Common.{arith, rules}
use Rattle.due.specs.Change.{counts_of}
use Rattle.due.proofs.counts_of.Goals as goal

three-are : (bs : List Bool) {a b c : Bool} → length bs ≡ 3 → get_or bs 0 false ≡ a → get_or bs 1 false ≡ b → get_or bs 2 false ≡ c → bs ≡ a ∷ b ∷ c ∷ []
three-are [] l p q r = absurd (omega arith)
three-are (x ∷ []) l p q r = absurd (omega arith)
three-are (x ∷ y ∷ []) l p q r = absurd (omega arith)
three-are (x ∷ y ∷ z ∷ []) l p q r = λ i. p i ∷ q i ∷ r i ∷ []
three-are (x ∷ y ∷ z ∷ w ∷ bs) l p q r = absurd (omega arith)

pub returns : goal.returns
unfolding counts_of
returns c =
    let made = c.from_fn.ensures.items in
    let e = made.each in
    three-are c.from_fn.result made.long (search rules) (search rules) (search rules)
