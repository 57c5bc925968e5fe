-- Lines told one by one: the last one closed by `)`, and what comes behind a part of the message.
use Rattle.std.specs.Prelude.{ℕ, ◌≡◌, List, cond, false}
use Rattle.std.proofs.Common.{ap}
use Rattle.text.specs.Piece.{Piece, Typing}
use Rattle.text.specs.Read.{Got}
use Rattle.text.specs.Lines.{closed, all_but_last, line_text}
use Rattle.text.specs.Laws.Base.{Laws}
use Rattle.text.specs.Laws.Lines.{closed-off}
use Rattle.text.proofs.Laws.Lines.{typed-clean}

pub opened-open : {A : Type 0} {v : A → Type 0} {lay : A → List Piece} {rd : List ℕ → Got A} {s f : List ℕ → Type 0} → Laws v lay rd s f
    → (a : A) {l : List ℕ} → v a → Typing (lay a) l → (closed l ≡ false) × (line_text l ≡ l)
opened-open F a {l} w t = let c = closed-off l (typed-clean (F.within a w) t) in (c, ap (λ b. cond b (all_but_last l) l) c)
