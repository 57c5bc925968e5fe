-- The inner answers leave no choice.
use Rattle.std.specs.Prelude.{ℕ, ◌≡◌, List, Result, Ok, Err, drop}
use Rattle.std.proofs.Common.{sym, ap, ◌∙◌, refl}
use Rattle.text.specs.declared.refusal.Refusal.{Refusal}
use Rattle.text.specs.Laws.Held.{one_place}
use Rattle.text.specs.Laws.Refusals.{number-one}
use Rattle.row.specs.declared.Row.{Row}
use Rattle.text.specs.declared.Found.{Found}
use Rattle.radio.specs.declared.RowFound.{RowFound}
use Rattle.radio.specs.Outcome.{Outcome}
use Rattle.radio.specs.Number.{Part}
use Rattle.radio.specs.Code.Held.{Held, HeldNumber, HeldRow}
use Rattle.radio.specs.Laws.Outcome.{no-refuse, took, refused-by}

held_one : {A R : Type 0} (value : R → A) (next : R → ℕ) {m : List ℕ} {o : Outcome (Part A)}
    → ((r s : R) → value r ≡ value s → next r ≡ next s → r ≡ s) → {r s : Result R Refusal} → Held value next m o r → Held value next m o s → r ≡ s
held_one value next made {r = Err e} {s = Err f} p q = ap Err (number-one e f (refused-by (sym p.says ∙ q.says)))
held_one value next made {r = Err e} {s = Ok s} p q = no-refuse (sym p.says ∙ q.says)
held_one value next made {r = Ok r} {s = Err f} p q = no-refuse (sym q.says ∙ p.says)
held_one {A} value next {m = m} made {r = Ok r} {s = Ok s} p q =
    let e = sym p.says ∙ q.says in
    let v = took (λ (a : Part A). value r ≡ a.value) e refl in
    let d = took (λ (a : Part A). drop (next r) m ≡ a.rest) e refl in
    ap Ok (made r s v (one_place m (next r) (next s) p.within q.within d))

pub number_one : {m : List ℕ} {o : Outcome (Part ℕ)} {r s : Result Found Refusal} → HeldNumber m o r → HeldNumber m o s → r ≡ s
number_one p q = held_one (λ f. f.value) (λ f. f.next) (λ a b v n. λ i. record { value = v i; next = n i }) p q

pub row_one : {m : List ℕ} {o : Outcome (Part Row)} {r s : Result RowFound Refusal} → HeldRow m o r → HeldRow m o s → r ≡ s
row_one p q = held_one (λ f. f.row) (λ f. f.next) (λ a b v n. λ i. record { row = v i; next = n i }) p q
