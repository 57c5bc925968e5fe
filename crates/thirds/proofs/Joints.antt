-- A group, third by third: each with what parts it from what stands before it.
use Rattle.std.specs.Prelude.{◌≡◌, ℕ, zero, suc, ◌+◌, ◌-◌, ◌<◌, ◌≤◌, List, [], ◌∷◌, ◌++◌, set}
use Rattle.std.proofs.Common.{refl, ◌∙◌, ap, arith}
use Rattle.text.specs.Piece.{Piece, byte, gap, canonical, bytes}
use Rattle.text.specs.Read.{Got, misfit, got, and_then, read_after}
use Rattle.text.specs.Laws.Put.{canonical-append}
use Rattle.thirds.specs.Groups.{Three, third_pieces, read_third, group_pieces, read_group}
use Rattle.thirds.specs.Code.Held.{three, joint_text}
use Rattle.thirds.specs.declared.Group.{Group}

-- `left` thirds from the place k on, each stored at its place
unfoldable pub thirds_from : (List ℕ → Got ℕ) → (left k : ℕ) (numbers : List ℕ) → List ℕ → Got Three
thirds_from f zero k numbers m = got (three numbers) m
thirds_from f (suc left) k numbers m = and_then (read_after (joint_text k) f m) (λ x r. thirds_from f left (k + 1) (set numbers k x) r)

-- those that are left from there
abbrev pub rest_from : Group → (k : ℕ) (numbers : List ℕ) → List ℕ → Got Three
rest_from g k numbers m = thirds_from (read_third g) (3 - k) k numbers m

-- what is read, then read on
then-then : {A B C : Type 0} (g : Got A) (f : A → List ℕ → Got B) (h : B → List ℕ → Got C)
    → and_then (and_then g f) h ≡ and_then g (λ a r. and_then (f a r) h)
then-then misfit f h = refl
then-then (got a r) f h = refl

-- all three, whatever was in the array
pub from-start : (g : Group) (a b c : ℕ) (m : List ℕ) → rest_from g 0 (a ∷ b ∷ c ∷ []) m ≡ read_group g m
unfolding thirds_from read_group
from-start g a b c m = simp then-then

pub from_step : (g : Group) (k : ℕ) (numbers m : List ℕ) → k < 3
    → rest_from g k numbers m ≡ and_then (read_after (joint_text k) (read_third g) m) (λ x r. rest_from g (k + 1) (set numbers k x) r)
unfolding thirds_from
from_step g k numbers m h = let e : 3 - k ≡ suc (3 - (k + 1)) = omega arith in rw e

-- none is left
pub from_end : (g : Group) (k : ℕ) (numbers m : List ℕ) → 3 ≤ k → rest_from g k numbers m ≡ got (three numbers) m
unfolding thirds_from
from_end g k numbers m h = let e : 3 - k ≡ 0 = omega arith in rw e

-- the bytes of a gap and three thirds
pub group-bytes : (g : Group) (t : Three) → canonical (group_pieces g t)
    ≡ bytes " " ++ (canonical (third_pieces g t.0) ++ (bytes "/" ++ (canonical (third_pieces g t.1) ++ (bytes "/" ++ canonical (third_pieces g t.2)))))
group-bytes g t = joined_bytes (third_pieces g t.0) (third_pieces g t.1) (third_pieces g t.2)
  where
    joined_bytes : (a b c : List Piece) → canonical (gap ∷ (a ++ (byte 47 ∷ (b ++ (byte 47 ∷ c))))) ≡ 32 ∷ (canonical a ++ (47 ∷ (canonical b ++ (47 ∷ canonical c))))
    joined_bytes a b c = ap (λ (q : List ℕ). 32 ∷ q) (canonical-append a (byte 47 ∷ (b ++ (byte 47 ∷ c))) ∙ ap (λ (q : List ℕ). canonical a ++ (47 ∷ q)) (canonical-append b (byte 47 ∷ c)))
