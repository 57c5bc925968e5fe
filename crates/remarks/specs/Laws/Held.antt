-- The promise of reading what stands below the rows leaves no choice.
use Rattle.std.specs.Prelude.{ℕ, ◌≡◌, refl, List, Result, Ok, Err}
use Rattle.std.proofs.Common.{sym, ◌∙◌, ap}
use Rattle.text.specs.Out.{Out}
use Rattle.text.specs.Laws.Out.{took}
use Rattle.text.specs.Laws.Refusals.{fault-one, refused-taken}
use Rattle.text.specs.declared.refusal.Fault.{Fault}
use Rattle.remarks.specs.Remarks.{Remarks}
use Rattle.remarks.specs.declared.Remarks as Code
use Rattle.remarks.specs.Code.Held.{kept, RemarksHeld, RemarksLeft}

pub remarks-one : (m : List ℕ) (o : Out Remarks) (r s : Result Code.Remarks Fault) → RemarksHeld m o r → RemarksHeld m o s → r ≡ s
remarks-one m o (Ok x) (Ok y) p q = ap Ok (p.keeps ∙ took (λ z. kept p.said ≡ kept z) (sym p.says ∙ q.says) refl ∙ sym q.keeps)
remarks-one m o (Ok x) (Err g) p q = refused-taken q p.says
remarks-one m o (Err f) (Ok y) p q = refused-taken p q.says
remarks-one m o (Err f) (Err g) p q = ap Err (fault-one p q)

-- nor does what is left in the structs that are lent
pub left-one : (m : List ℕ) (o : Out Remarks) (x y : Code.Remarks) (r s : Result (Unit {0}) Fault) → RemarksLeft m o x r → RemarksLeft m o y s → (x ≡ y) × (r ≡ s)
left-one m o x y (Ok u) (Ok v) p q = let e = remarks-one m o (Ok x) (Ok y) p.0 q.0 in (cc, refl)
left-one m o x y (Ok u) (Err g) p q = let e = remarks-one m o (Ok x) (Err g) p.0 q.0 in cc
left-one m o x y (Err f) (Ok v) p q = let e = remarks-one m o (Err f) (Ok y) p.0 q.0 in cc
left-one m o x y (Err f) (Err g) p q = let e = remarks-one m o (Err f) (Err g) p.0 q.0 in (p.1 ∙ sym q.1, cc)
