-- What is shown of each format; fixed texts.
use Rattle.std.specs.Prelude.{ℕ, ◌≡◌, refl, List, [], ◌∷◌, cond, Bool, true, false, eqb}
use Rattle.std.proofs.Common.{sym, eqb-true, eq-eqb}
use Rattle.std.proofs.lemmas.Bool.{not-true}
use Rattle.text.specs.Piece.{byte, gap, One, byte1, gap1, Typed, done, step, spell}
use Rattle.text.specs.Piece.{spell1}
use Rattle.text.specs.Read.{got, skip, after, read_text}
use Rattle.text.specs.Laws.Base.{inline, Laws, and_l, and_r, no-misfit, guard-got, space_next, skip-spaces, skip_is, is_nr_groups, first, firm, solid, Head}

-- text
one-text : (c : ℕ) (m : List ℕ) → One (spell1 c) (c ∷ m) (after c m)
one-text c m = go (eqb c 32) refl
  where
    go : (t : Bool) → eqb c 32 ≡ t → One (cond t gap (byte c)) (c ∷ m) (cond t (skip m) m)
    go true e = rw (eqb-true c 32 e) (gap1 (skip-spaces m))
    go false e = byte1

pub text-sound : (cs m : List ℕ) {r : List ℕ} → read_text cs m ≡ got tt r → Typed (spell cs) m r
unfolding read_text spell
text-sound [] m {r} e = let q : m ≡ r = cc in rw q done
text-sound (c ∷ cs) [] e = no-misfit e
text-sound (c ∷ cs) (x ∷ m) {r} e =
    let g = guard-got (eqb c x) e in
    let q : x ≡ c = sym (eqb-true c x g.0) in
    rw q (step (one-text c m) (text-sound cs (after c m) g.1))

spell1-short : (c : ℕ) → is_nr_groups (spell1 c) ≡ false
spell1-short c = go (eqb c 32)
  where
    go : (t : Bool) → is_nr_groups (cond t gap (byte c)) ≡ false
    go true = refl
    go false = refl

record Spelled (c : ℕ) (m k : List ℕ) : Type 0 where
  rest : List ℕ
  is : m ≡ c ∷ rest
  then : (eqb c 32 ≡ true → space_next k ≡ false) → after c rest ≡ k

spelled : (c : ℕ) {m k : List ℕ} → One (spell1 c) m k → Spelled c m k
spelled c {m} {k} = go (eqb c 32) refl
  where
    go : (t : Bool) → eqb c 32 ≡ t → {m k : List ℕ} → One (cond t gap (byte c)) m k → Spelled c m k
    go true e (gap1 {m = n} s) = record { rest = n; is = rw (eqb-true c 32 e); then = λ h. rw e (skip_is s (h e)) }
    go false e byte1 = record { rest = _; is = refl; then = λ h. rw e }

firm-next : (cs : List ℕ) {k r : List ℕ} → firm cs r ≡ true → Typed (spell cs) k r → space_next k ≡ false
unfolding spell
firm-next [] h done = not-true _ h
firm-next (c ∷ cs) h t =
    let f = first (spell1-short c) t in
    let s = spelled c f.left in
    rw s.is (not-true _ h)

pub text-complete : (cs : List ℕ) {m r : List ℕ} → Typed (spell cs) m r → solid cs r ≡ true → read_text cs m ≡ got tt r
unfolding read_text spell
text-complete [] done h = refl
text-complete (c ∷ cs) {m} {r} t h =
    let f = first (spell1-short c) t in
    let s = spelled c f.left in
    let q = and_l (cond (eqb c 32) (firm cs r) true) (solid cs r) h in
    let a = s.then (λ e. firm-next cs (rw e at q) f.right) in
    rw (s.is, eq-eqb c c refl, a) (text-complete cs f.right (and_r (cond (eqb c 32) (firm cs r) true) (solid cs r) h))

pub text_head : (c : ℕ) (cs : List ℕ) {m r : List ℕ} → Typed (spell (c ∷ cs)) m r → Head (eqb c) m
unfolding spell
text_head c cs t =
    let s = spelled c (first (spell1-short c) t).left in
    rw s.is (eq-eqb c c refl)

pub text-laws : (c : ℕ) (cs : List ℕ) → inline (spell (c ∷ cs)) ≡ true
    → Laws {A = Unit {0}} (λ _. Unit {0}) (λ _. spell (c ∷ cs)) (read_text (c ∷ cs)) (Head (eqb c)) (λ r. solid (c ∷ cs) r ≡ true)
text-laws c cs clean = record {
  sound = λ {a} {m} e. (tt, text-sound (c ∷ cs) m e);
  complete = λ a v t h. text-complete (c ∷ cs) t h;
  starts = λ a v t h. text_head c cs t;
  within = λ a v. clean;
}
