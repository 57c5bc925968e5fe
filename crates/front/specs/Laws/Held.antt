-- The promise of reading the front leaves no choice.
use Rattle.std.specs.Prelude.{ℕ, ◌≡◌, refl, List, Result, Ok, Err}
use Rattle.std.proofs.Common.{sym, ◌∙◌, ap}
use Rattle.text.specs.Lines.{Cut}
use Rattle.text.specs.Laws.Held.{one_place}
use Rattle.text.specs.Laws.Out.{no-refuse, took, refused-left}
use Rattle.text.specs.Laws.Refusals.{number-one}
use Rattle.text.specs.declared.refusal.Fault.{Fault}
use Rattle.front.specs.declared.FrontFound.{FrontFound}
use Rattle.front.specs.Code.Front.{Opening, FrontTaken, FrontRefused, FrontHeld}

taken-one : {m : List ℕ} {f g : FrontFound} → FrontTaken m f → FrontTaken m g → f ≡ g
taken-one p q =
    let t = sym p.says ∙ q.says in
    let front = sym p.fronts ∙ took (λ (b : Opening × List Cut). p.opening.front ≡ b.0.front) t refl ∙ q.fronts in
    let next = p.behind ∙ sym q.behind in
    λ i. record { front = front i; next = next i }

refused-one : {m : List ℕ} {f g : Fault} → FrontRefused m f → FrontRefused m g → f ≡ g
refused-one {m} {f} {g} p q =
    let t = refused-left (sym p.says ∙ q.says) in
    let refusal = number-one f.refusal g.refusal t.0 in
    let place = one_place m f.place g.place p.within q.within t.1 in
    λ i. record { refusal = refusal i; place = place i }

pub front-one : (m : List ℕ) (r s : Result FrontFound Fault) → FrontHeld m r → FrontHeld m s → r ≡ s
front-one m (Ok f) (Ok g) p q = ap Ok (taken-one p q)
front-one m (Ok f) (Err g) p q = no-refuse (sym q.says ∙ p.says)
front-one m (Err f) (Ok g) p q = no-refuse (sym p.says ∙ q.says)
front-one m (Err f) (Err g) p q = ap Err (refused-one p q)
