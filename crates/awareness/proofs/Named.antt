-- Names behind a gap: where they stand, and what they are tested for.
use Rattle.std.specs.Prelude.{ℕ, ◌+◌, ◌-◌, ◌≤◌, ◌≡◌, refl, List, [], ◌∷◌, Bool, true, false, length, take, drop}
use Rattle.std.proofs.Common.{sym, ◌∙◌, ap, arith, length-append, length-drop}
use lib.Seq.{drop-drop}
use Rattle.text.specs.Choice.{all}
use Rattle.text.specs.Read.{Got, misfit, got, guard, and_then, read_text, read_gap, read_if, read_before}
use Rattle.text.specs.Names.{is_name, past, read_run}
use Rattle.text.specs.Code.Held.{Reached}
use Rattle.text.specs.Laws.Base.{then-got, guard-got, carry}
use Rattle.text.specs.Laws.Runs.{run_past, run_in, run-taken}

-- a run of bytes from a place on
module _ (p : ℕ → Bool) (m : List ℕ) (i : ℕ) {n : ℕ} (within : i ≤ length m) (h : Reached m (past p (drop i m)) n) where
  pub run-ordered : i ≤ n
  run-ordered =
      let whole = ap length (run_past p (drop i m)) in
      let left = ap length h.left in
      omega (arith, h.within, rw length-append at whole, rw length-drop at left, length-drop i m)

  pub run-span : read_run p (drop i m) ≡ got (take (n - i) (drop i m)) (drop n m)
  run-span =
      let o = run-ordered in
      let e : i + (n - i) ≡ n = omega arith in
      let inner : Reached (drop i m) (past p (drop i m)) (n - i) = record {
        within = rw length-drop (omega (arith, h.within));
        left = drop-drop (n - i) i m ∙ rw e h.left;
      } in
      rw (run-taken p (drop i m) inner, h.left)

-- a gap comes before a test, and before what follows
module _ {A : Type 0} (f : List ℕ → Got A) (m : List ℕ) where
  gap-if : (p : A → Bool) → read_gap (read_if p f) m ≡ read_if p (read_gap f) m
  gap-if p = go (read_text (32 ∷ []) m)
    where
      go : (g : Got (Unit {0})) → and_then g (λ _ k. read_if p f k) ≡ and_then (and_then g (λ _ k. f k)) (λ a r. guard (p a) (got a r))
      go misfit = refl
      go (got u k) = refl

  pub gap-before : (t : List ℕ) → read_gap (read_before f t) m ≡ read_before (read_gap f) t m
  gap-before t = go (read_text (32 ∷ []) m)
    where
      go : (g : Got (Unit {0})) → and_then g (λ _ k. read_before f t k) ≡ and_then (and_then g (λ _ k. f k)) (λ a k. and_then (read_text t k) (λ _ r. got a r))
      go misfit = refl
      go (got u k) = refl

-- the name behind a gap, held against a test
module _ (p : List ℕ → Bool) (m : List ℕ) where
  pub none_named : read_gap (read_run is_name) m ≡ misfit → read_gap (read_if p (read_run is_name)) m ≡ misfit
  none_named e = gap-if (read_run is_name) m p ∙ rw e

  module _ {w r : List ℕ} (e : read_gap (read_run is_name) m ≡ got w r) where
    pub name-passes : p w ≡ true → read_gap (read_if p (read_run is_name)) m ≡ got w r
    name-passes v = gap-if (read_run is_name) m p ∙ rw (e, v)

    pub name-fails : p w ≡ false → read_gap (read_if p (read_run is_name)) m ≡ misfit
    name-fails v = gap-if (read_run is_name) m p ∙ rw (e, v)

-- what is known of a name that was read
module _ (m : List ℕ) {w r : List ℕ} where
  pub name-bytes : read_gap (read_run is_name) m ≡ got w r → all is_name w ≡ true
  name-bytes e = let t = then-got (read_text (32 ∷ []) m) e in carry (λ a _. all is_name a ≡ true) t.two (run_in is_name t.mid)

  pub name-passed : (p : List ℕ → Bool) → read_gap (read_if p (read_run is_name)) m ≡ got w r → p w ≡ true
  name-passed p e =
      let t = then-got (read_gap (read_run is_name) m) (sym (gap-if (read_run is_name) m p) ∙ e) in
      let g = guard-got (p t.val) t.two in
      carry (λ a _. p a ≡ true) g.1 g.0
