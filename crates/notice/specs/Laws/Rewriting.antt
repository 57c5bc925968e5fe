-- The two cases of a rewriting: what is written of a message that is accepted, and of one that is refused.
use Rattle.std.specs.Prelude.{ℕ, ◌≡◌, List}
use borrow.Author.Tests.{eq-eqb, ne_eqb}
use Rattle.record.specs.declared.Reading.{Reading}
use Rattle.text.specs.declared.Written.{Written}
use Rattle.notice.specs.Reading.{reading}
use Rattle.notice.specs.Writing.{unwritten, Wrote}
use Rattle.notice.specs.Rewriting.{rewriting, rewritten, Rewrote}

module _ (m : List ℕ) (a : Reading) (e : a ≡ reading m) where
  pub rewrote-accepted : {b x : List ℕ} {w : Written} → a.refusal ≡ 0 → Wrote a.«record» b x w → Rewrote m b x w
  unfolding rewriting rewritten
  rewrote-accepted z p = let q = eq-eqb a.refusal 0 z in record { answer = rw (← e, q) p.answer; holds = rw (← e, q) p.holds }

  pub rewrote-refused : {b : List ℕ} → (a.refusal ≡ 0 → ⊥) → Rewrote m b b (unwritten a.refusal)
  unfolding rewriting rewritten
  rewrote-refused h = let q = ne_eqb a.refusal 0 h in record { answer = rw (← e, q); holds = rw (← e, q) }
