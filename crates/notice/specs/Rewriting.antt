-- A message written anew: its record's canonical text, or the refusal of its reading.
use Rattle.std.specs.Prelude.{ℕ, ◌≡◌, List, eqb, length, cond}
use Rattle.text.specs.declared.Written.{Written}
use Rattle.notice.specs.Reading.{reading}
use Rattle.notice.specs.Writing.{unwritten, writing, written}

-- the answer to a message and a buffer with room for so many bytes
unfoldable pub rewriting : List ℕ → ℕ → Written
rewriting m room = cond (eqb (reading m).refusal 0) (writing (reading m).«record» room) (unwritten (reading m).refusal)

-- what the buffer holds then; a refused message touches no byte
unfoldable pub rewritten : List ℕ → List ℕ → List ℕ
rewritten m buffer = cond (eqb (reading m).refusal 0) (written (reading m).«record» buffer) buffer

-- what a rewriting promises
pub record Rewrote (m before after : List ℕ) (w : Written) : Type 0 where
  pub answer : w ≡ rewriting m (length before)
  pub holds : after ≡ rewritten m before
