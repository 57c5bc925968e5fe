-- What is told behind a `map_err` that moves the place of a fault.
use Rattle.std.specs.Prelude.{◌≡◌, Result, Ok, Err, MatchResult}
use Rattle.text.specs.declared.refusal.Fault.{Fault}

pub moved-err : {T : Type 0} (P : T → Type 0) (Q : Fault → Type 0) {R : Fault → Type 0} (r : Result T Fault) (d : Fault) → MatchResult r P Q → MatchResult r (λ x. ◌≡◌ {A = Result T Fault} (Err d) (Ok x)) R
    → (e : Fault) × Q e × R e
moved-err P Q (Ok x) d p q = cc
moved-err P Q (Err e) d p q = (e, p, q)

pub moved-ok : {T : Type 0} (P : T → Type 0) (Q : Fault → Type 0) {R : Fault → Type 0} (r : Result T Fault) (b : T) → MatchResult r P Q → MatchResult r (λ x. ◌≡◌ {A = Result T Fault} (Ok b) (Ok x)) R
    → ((e : Fault) → R e → ⊥) → P b
moved-ok P Q (Ok x) b p q n = let e : b ≡ x = cc in rw e p
moved-ok P Q (Err e) b p q n = absurd (n e q)
