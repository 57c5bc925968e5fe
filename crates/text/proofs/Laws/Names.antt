-- Tables of names by longest match, words, and groups of a fixed count.
use Prim.Native.Nat.{ℕ}
use Rattle.std.specs.Prelude.{◌≡◌}
use Rattle.std.proofs.Math.Path.{refl, sym}
use Rattle.std.proofs.Common.{◌∙◌}
use mathlib.Core.List.{List, [], ◌∷◌}
use mathlib.Core.Bool.{cond, Bool, true, false, not, ◌&&◌}
use Rattle.std.proofs.Math.Dec.{eqb}
use borrow.Author.Tests.{eqb-true, eq-eqb}
use Rattle.text.specs.Choice.{all, member, head_is}
use Rattle.text.specs.Piece.{Typed, spell}
use Rattle.text.specs.Read.{Got, misfit, got, guard, or_else, and_then, after, read_text}
use Rattle.text.specs.Names.{read_name}
use Rattle.text.specs.Laws.Base.{Laws, and-1, and-2, and_l, and_r, true-false, no-misfit, guard-got, carry}
use Rattle.text.specs.Laws.Base.{solid, space_next, Head, Any}
use Rattle.text.proofs.Laws.Base.{text-sound, text-complete, text_head}
use Rattle.text.specs.Laws.Names.{clash, found, good, all-at}

solid-any : (cs r : List ℕ) → solid cs (32 ∷ []) ≡ true → solid cs r ≡ true
solid-any [] r h = refl
solid-any (c ∷ []) r h = go (eqb c 32) (and_l (cond (eqb c 32) false true) true h)
  where
    go : (t : Bool) → cond t false true ≡ true → (cond t (not (space_next r)) true && true) ≡ true
    go true k = true-false (sym k)
    go false k = refl
solid-any (c ∷ d ∷ cs) r h =
    let p = cond (eqb c 32) (not (eqb d 32)) true in
    rw (and_l p (solid (d ∷ cs) (32 ∷ [])) h) (solid-any (d ∷ cs) r (and_r p (solid (d ∷ cs) (32 ∷ [])) h))

name-sound : (name : ℕ → List ℕ) (bs m : List ℕ) {a : ℕ} {r : List ℕ} → read_name name bs m ≡ got a r → (member bs a ≡ true) × Typed (spell (name a)) m r
unfolding read_name
name-sound name [] m e = no-misfit e
name-sound name (b ∷ bs) m {a} {r} e = go (read_text (name b) m) refl e (name-sound name bs m)
  where
    go : (g : Got (Unit {0})) → read_text (name b) m ≡ g → or_else (and_then g (λ _ r. got b r)) (read_name name bs m) ≡ got a r
        → (read_name name bs m ≡ got a r → (member bs a ≡ true) × Typed (spell (name a)) m r)
        → (cond (eqb b a) true (member bs a) ≡ true) × Typed (spell (name a)) m r
    go misfit q f ih = let x = ih f in (skip-one (eqb b a) x.0, x.1)
      where
        skip-one : (t : Bool) → member bs a ≡ true → cond t true (member bs a) ≡ true
        skip-one true k = refl
        skip-one false k = k
    go (got u k) q f ih = carry (λ a r. (cond (eqb b a) true (member bs a) ≡ true) × Typed (spell (name a)) m r) f
        (rw (eq-eqb b b refl) refl, text-sound (name b) m q)

pub spell-head : (p : ℕ → Bool) (cs : List ℕ) {m r : List ℕ} → head_is p cs ≡ true → Typed (spell cs) m r → Head p m
spell-head p [] h t = true-false (sym h)
spell-head p (c ∷ cs) {m} h t = go m (text_head c cs t)
  where
    go : (m : List ℕ) → Head (eqb c) m → Head p m
    go [] k = k
    go (x ∷ m) k = rw (← eqb-true c x k) h

module _ (on : List ℕ → Bool) (stop : List ℕ → Type 0) (stops : (cs m : List ℕ) → on cs ≡ true → stop m → read_text cs m ≡ misfit) where
  clash-misfit : (p q m : List ℕ) {r : List ℕ} → clash on p q ≡ true → read_text q m ≡ got tt r → stop r → read_text p m ≡ misfit
  unfolding read_text
  clash-misfit [] q m h e n = true-false (sym h)
  clash-misfit (c ∷ cs) [] m {r} h e n = let s : m ≡ r = cc in stops (c ∷ cs) m h (rw s n)
  clash-misfit (c ∷ cs) (d ∷ ds) [] h e n = refl
  clash-misfit (c ∷ cs) (d ∷ ds) (x ∷ m) {r} h e n =
      go (eqb c x) refl (λ k f. clash-misfit cs ds (after c m) k f n)
    where
      go : (t : Bool) → eqb c x ≡ t → (clash on cs ds ≡ true → read_text ds (after c m) ≡ got tt r → read_text cs (after c m) ≡ misfit)
          → guard t (read_text cs (after c m)) ≡ misfit
      go false f ih = refl
      go true f ih =
          let g = guard-got (eqb d x) e in
          let q : d ≡ c = eqb-true d x g.0 ∙ sym (eqb-true c x f) in
          ih (rw (eq-eqb c d (sym q)) at h) (rw q at g.1)

  name-complete : (name : ℕ → List ℕ) (bs m : List ℕ) {a : ℕ} {r : List ℕ} → found on name bs a ≡ true → read_text (name a) m ≡ got tt r → stop r
      → read_name name bs m ≡ got a r
  unfolding read_name
  name-complete name [] m h e n = true-false (sym h)
  name-complete name (b ∷ bs) m {a} {r} h e n = go (eqb b a) refl h (λ k. name-complete name bs m k e n)
    where
      go : (t : Bool) → eqb b a ≡ t → cond t true (clash on (name b) (name a) && found on name bs a) ≡ true
          → (found on name bs a ≡ true → read_name name bs m ≡ got a r)
          → or_else (and_then (read_text (name b) m) (λ _ r. got b r)) (read_name name bs m) ≡ got a r
      go true f k ih = rw (eqb-true b a f, e)
      go false f k ih = rw (clash-misfit (name b) (name a) m (and_l (clash on (name b) (name a)) (found on name bs a) k) e n)
          (ih (and_r (clash on (name b) (name a)) (found on name bs a) k))

  pub name-laws : (p : ℕ → Bool) (name : ℕ → List ℕ) (order : List ℕ) → all (good on p name order) order ≡ true
      → Laws (λ a. member order a ≡ true) (λ a. spell (name a)) (read_name name order) (Head p) stop
  name-laws p name order ok = record {
    sound = λ {a} {m} e. name-sound name order m e;
    complete = λ a {m} {r} v t h. let g = all-at (good on p name order) order a ok v in
        name-complete name order m (and-1 _ _ g) (text-complete (name a) t (solid-any (name a) r (and-1 _ _ (and-2 _ _ g)))) h;
    starts = λ a v t h. let g = all-at (good on p name order) order a ok v in spell-head p (name a) (and-1 _ _ (and-2 _ _ (and-2 _ _ g))) t;
    within = λ a v. let g = all-at (good on p name order) order a ok v in and-2 _ _ (and-2 _ _ (and-2 _ _ g));
  }

-- a table none of whose names begins with another
pub table-laws : (p : ℕ → Bool) (name : ℕ → List ℕ) (order : List ℕ) → all (good (λ _. false) p name order) order ≡ true
    → Laws (λ a. member order a ≡ true) (λ a. spell (name a)) (read_name name order) (Head p) Any
table-laws = name-laws (λ _. false) Any (λ cs m h n. true-false (sym h))
