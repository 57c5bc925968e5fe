use Rattle.std.specs.Prelude.{ℕ, ◌≡◌, ◌+◌, refl, List, Bool, true, false, cond, not, length, count_by}
use Rattle.std.proofs.Common.{arith, rules, sym, ◌∙◌}
use Rattle.std.proofs.lemmas.List.Recursion.{is_count_by}
use Rattle.std.proofs.lemmas.List.Sums.{count_by-le-length}
use Rattle.surface.specs.declared.Third.{Third}
use Rattle.surface.specs.Table1.{agrees}
use Rattle.row.specs.Agreement.{disagrees, disagreements}
use Rattle.row.proofs.disagreements.Goals as goal

abbrev disallowed : Third → Bool
disallowed t = not (agrees t)

counted : (ts : List Third) → disagreements ts ≡ count_by disallowed ts
unfolding disagreements disagrees
counted = is_count_by disagreements disallowed refl (λ t ts. one (agrees t) (disagreements ts))
  where
    one : (b : Bool) (n : ℕ) → cond b 0 1 + n ≡ cond (not b) (1 + n) n
    one true n = omega arith
    one false n = refl

pub returns : goal.returns
returns c =
    let ts = c.args.r.thirds in
    let three : length ts ≡ 3 = search rules in
    let n : c.count.result ≡ count_by disallowed ts = search rules in
    (n ∙ sym (counted ts), omega (arith, count_by-le-length disallowed ts))
