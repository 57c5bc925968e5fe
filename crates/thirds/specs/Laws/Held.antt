-- What follows from an answer of the code.
use Rattle.std.specs.Prelude.{ℕ, ◌≡◌, refl, List, [], ◌∷◌, Option, None, Some, length, drop}
use Rattle.std.proofs.Common.{sym, ◌∙◌, ap, arith}
use Rattle.text.specs.Read.{Got}
use Rattle.text.specs.Laws.Base.{no-misfit, carry}
use Rattle.text.specs.Laws.Held.{one_place}
use Rattle.thirds.specs.Groups.{Three}
use Rattle.thirds.specs.Code.Held.{HeldThree, three}
use Rattle.thirds.specs.declared.Trio.{Trio}

-- an array of three numbers, by the three
three-are : (ns : List ℕ) → length ns ≡ 3 → ns ≡ (three ns).0 ∷ (three ns).1 ∷ (three ns).2 ∷ []
three-are [] h = absurd (omega arith)
three-are (a ∷ []) h = absurd (omega arith)
three-are (a ∷ b ∷ []) h = absurd (omega arith)
three-are (a ∷ b ∷ c ∷ []) h = refl
three-are (a ∷ b ∷ c ∷ d ∷ ns) h = absurd (omega arith)

pub three-same : (ns ms : List ℕ) → length ns ≡ 3 → length ms ≡ 3 → three ns ≡ three ms → ns ≡ ms
three-same ns ms h k e = three-are ns h ∙ ap (λ (t : Three). t.0 ∷ t.1 ∷ t.2 ∷ []) e ∙ sym (three-are ms k)

-- the promise of reading a group leaves no choice
pub three-one : {m : List ℕ} {g : Got Three} {r s : Option Trio} → HeldThree m g r → HeldThree m g s → r ≡ s
three-one {r = None} {s = None} p q = refl
three-one {r = None} {s = Some t} p q = no-misfit (sym p.told.says ∙ q.told.says)
three-one {r = Some t} {s = None} p q = no-misfit (sym q.told.says ∙ p.told.says)
three-one {m} {g} {r = Some t} {s = Some u} p q =
    let e = sym p.told.says ∙ q.told.says in
    let v = carry (λ n _. three t.numbers ≡ n) e refl in
    let d = carry (λ _ k. drop t.next m ≡ k) e refl in
    ap Some (λ i. record { numbers = three-same t.numbers u.numbers p.no_more q.no_more v i; next = one_place m t.next u.next p.told.within q.told.within d i })
