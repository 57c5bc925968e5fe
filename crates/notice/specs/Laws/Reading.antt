-- What an accepted reading says of the lines, and by which numbers one is refused.
use Rattle.std.specs.Prelude.{ℕ, zero, suc, ◌+◌, ◌<◌, ◌≤◌, ◌≡◌, refl, List, [], ◌∷◌, cond, Bool, true, false, eqb}
use Rattle.std.proofs.Common.{sym, ◌∙◌, ap, arith}
use Rattle.std.proofs.lemmas.Bool.{eqb-false}
use Rattle.text.specs.Choice.{member}
use Rattle.text.specs.Out.{Out, refuse, taken}
use Rattle.text.specs.Laws.Base.{true-false}
use Rattle.text.specs.Laws.Out.{Within, stopped, Any, is_number}
use Rattle.record.specs.declared.Record.{Record}
use Rattle.record.specs.Answer.{accepted}
use Rattle.notice.specs.Reading.{result}

-- no refusal has the number 0
pub result-took : (m : List ℕ) (o : Out Record) {r : Record} → Within is_number m Any o → result m o ≡ accepted r → o ≡ taken r
unfolding is_number
result-took m (refuse n left) (stopped h t) e = true-false (sym h ∙ ap is_number (ap (λ x. x.refusal) e))
result-took m (taken s) h e = ap (λ x. taken x.«record») e

-- n numbers, one behind the other from a on
abbrev pub from : ℕ → ℕ → List ℕ
from a zero = []
from a (suc n) = a ∷ from (suc a) n

-- a number between them is one of them
pub among : (n a k : ℕ) → a ≤ k → k < a + n → member (from a n) k ≡ true
among zero a k h l = absurd (omega arith)
among (suc n) a k h l = go (eqb a k) refl (among n (suc a) k)
  where
    go : (t : Bool) → eqb a k ≡ t → (suc a ≤ k → k < suc a + n → member (from (suc a) n) k ≡ true) → cond t true (member (from (suc a) n) k) ≡ true
    go true e later = refl
    go false e later = let d = eqb-false a k e in later (omega arith) (omega arith)
