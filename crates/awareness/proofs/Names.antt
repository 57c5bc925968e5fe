-- Tables of names, word by word.
use Rattle.std.specs.Prelude.{ℕ, ◌≤◌, ◌≡◌, refl, List, [], ◌∷◌, ◌++◌, true, leb, Option, None, Some, drop, MatchOption}
use Rattle.std.proofs.Common.{sym, ◌∙◌, ap, leb-true}
use Rattle.text.specs.Choice.{all}
use Rattle.text.specs.Read.{Got, misfit, got, or_else, and_then, read_text, read_word}
use Rattle.text.specs.Names.{read_name}
use Rattle.text.specs.Code.Held.{Held}
use Rattle.text.specs.Laws.Base.{no-misfit, carry, and-1, and-2}
use Rattle.text.specs.declared.Found.{Found}

-- names that all begin with a space, without it
abbrev pub unspaced : (ℕ → List ℕ) → ℕ → List ℕ
unspaced name n = drop 1 (name n)

else-none : {A : Type 0} (g : Got A) → or_else g misfit ≡ g
else-none misfit = refl
else-none (got a r) = refl

else-else : {A : Type 0} (f g h : Got A) → or_else (or_else f g) h ≡ or_else f (or_else g h)
else-else misfit g h = refl
else-else (got a r) g h = refl

-- a name behind the others of a table is tried where none of them stands
name-last : (name : ℕ → List ℕ) (bs : List ℕ) (b : ℕ) (m : List ℕ) → read_name name (bs ++ (b ∷ [])) m ≡ or_else (read_name name bs m) (read_word (name b) b m)
unfolding read_name
name-last name [] b m = else-none (read_word (name b) b m)
name-last name (a ∷ as') b m =
    let r = read_word (name a) a m in
    ap (or_else r) (name-last name as' b m) ∙ sym (else-else r (read_name name as' m) (read_word (name b) b m))

-- the first name of a table
pub name-first : (name : ℕ → List ℕ) (b : ℕ) (m : List ℕ) {k : List ℕ} {r : Option Found} → Held k (read_word (name b) b m) r → Held k (read_name name (b ∷ []) m) r
unfolding read_name
name-first name b m h = record { within = h.within; says = else-none (read_word (name b) b m) ∙ h.says }

-- and one more: `or_else` tries it where none was found
pub name-next : (name : ℕ → List ℕ) (bs : List ℕ) (b : ℕ) (m : List ℕ) {k : List ℕ} {q r : Option Found} → Held k (read_name name bs m) q
    → MatchOption q (Held k (read_word (name b) b m) r) (λ x. r ≡ Some x) → Held k (read_name name (bs ++ (b ∷ [])) m) r
name-next name bs b m {q = None} h o = record { within = o.within; says = name-last name bs b m ∙ rw h.says o.says }
name-next name bs b m {q = Some x} h o = rw o (record { within = h.within; says = name-last name bs b m ∙ rw h.says })

-- what is read of a table is one of its numbers, so that it fits a byte
pub name-low : (name : ℕ → List ℕ) (bs m : List ℕ) (top : ℕ) {a : ℕ} {r : List ℕ} → all (λ b. leb b top) bs ≡ true → read_name name bs m ≡ got a r → a ≤ top
unfolding read_name
name-low name [] m top h e = no-misfit e
name-low name (b ∷ bs) m top {a} {r} h e = go (read_text (name b) m) e (λ k. name-low name bs m top (and-2 (leb b top) (all (λ b. leb b top) bs) h) k)
  where
    go : (g : Got (Unit {0})) → or_else (and_then g (λ _ r. got b r)) (read_name name bs m) ≡ got a r → (read_name name bs m ≡ got a r → a ≤ top) → a ≤ top
    go misfit f ih = ih f
    go (got u k) f ih = carry (λ a _. a ≤ top) f (leb-true b top (and-1 (leb b top) (all (λ b. leb b top) bs) h))
