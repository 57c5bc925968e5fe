-- The descriptions tried one after the other, those that can stand by their first byte, and their bytes.
use Rattle.std.specs.Prelude.{◌≡◌, ℕ, suc, ◌<◌, ◌≤◌, Bool, true, false, cond, eqb, List, [], ◌∷◌, length, drop, filter}
use Rattle.std.proofs.Common.{refl, ◌∙◌, ap, get_or, eqb-true, ne_eqb, sym, drop-cons, drop_of_length-le}
use Rattle.text.specs.Piece.{gap, byte, canonical, canonical1, spell}
use Rattle.text.specs.Read.{Got, misfit, or_else, read_text, read_word}
use Rattle.text.specs.Names.{read_name}
use Rattle.text.specs.Laws.Base.{true-false}
use Rattle.surface.specs.Descriptions.{description_name}
use Rattle.thirds.specs.Groups.{description_order, read_description}
use Rattle.thirds.specs.Code.Begin.{can, beginning}

-- the description d alone
abbrev pub one : ℕ → List ℕ → Got ℕ
one d = read_word (description_name d) d

-- the first of several
abbrev one_of : List ℕ → List ℕ → Got ℕ
one_of = read_name description_name

module _ (b : ℕ) (k : List ℕ) where
  cannot : (t : List ℕ) (v : ℕ) → can b t ≡ false → read_word t v (b ∷ k) ≡ misfit
  unfolding read_text
  cannot [] v e = true-false e
  cannot (c ∷ cs) v e = rw e

  -- only those that can stand where the byte b does are tried
  only : (ds : List ℕ) → one_of ds (b ∷ k) ≡ one_of (filter (λ d. can b (description_name d)) ds) (b ∷ k)
  unfolding read_name
  only [] = refl
  only (d ∷ ds) = rw (only ds) (go (can b (description_name d)) refl)
    where
      rest : List ℕ
      rest = filter (λ d. can b (description_name d)) ds

      go : (t : Bool) → can b (description_name d) ≡ t → or_else (one d (b ∷ k)) (one_of rest (b ∷ k)) ≡ one_of (cond t (d ∷ rest) rest) (b ∷ k)
      go true e = refl
      go false e = rw (cannot (description_name d) d e)

-- the byte at i says which descriptions can stand there
pub by_byte : (m : List ℕ) (i b : ℕ) → i < length m → get_or m i 0 ≡ b → read_description (drop i m) ≡ read_name description_name (beginning b) (drop i m)
unfolding beginning read_description
by_byte m i b l e =
    let z : drop i m ≡ b ∷ drop (suc i) m = drop-cons m i 0 l ∙ ap (λ (c : ℕ). c ∷ drop (suc i) m) e in
    rw (z, only b (drop (suc i) m) description_order)

-- none begins by any other byte than these
pub none_begins : (b : ℕ) → (b ≡ 78 → ⊥) → (b ≡ 67 → ⊥) → (b ≡ 68 → ⊥) → (b ≡ 70 → ⊥) → (b ≡ 73 → ⊥) → (b ≡ 83 → ⊥) → (b ≡ 87 → ⊥) → beginning b ≡ []
unfolding beginning
none_begins b n c d f i s w = rw (other 78 n, other 67 c, other 68 d, other 70 f, other 73 i, other 83 s, other 87 w)
  where
    other : (x : ℕ) → (b ≡ x → ⊥) → eqb x b ≡ false
    other x h = ne_eqb x b (λ q. h (sym q))

-- nothing stands at the end
pub by_end : (m : List ℕ) (i : ℕ) → length m ≤ i → read_description (drop i m) ≡ misfit
unfolding read_description read_name read_text
by_end m i h = rw (drop_of_length-le m h)

-- the bytes of a fixed text
pub spelled : (cs : List ℕ) → canonical (spell cs) ≡ cs
unfolding spell
spelled [] = refl
spelled (c ∷ cs) = go (eqb c 32) refl (spelled cs)
  where
    go : (t : Bool) → eqb c 32 ≡ t → canonical (spell cs) ≡ cs → canonical1 (cond t gap (byte c)) (canonical (spell cs)) ≡ c ∷ cs
    go true e h = rw (eqb-true c 32 e, h)
    go false e h = rw h
