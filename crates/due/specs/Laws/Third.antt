-- A third against another: each sentence of the request, and both ways round.
use Rattle.std.specs.Prelude.{ℕ, ◌≡◌, refl, cond, Bool, true, false, not, eqb}
use Rattle.std.proofs.Common.{sym, ◌∙◌, eqb-true, eq-eqb, ne_eqb, arith}
use Rattle.std.proofs.lemmas.Bool.{eqb-false}
use Rattle.surface.specs.declared.Third.{Third}
use Rattle.surface.specs.Descriptions.{not_reported}
use Rattle.due.specs.Third.{rise, size, is_significant, depth_counts, third_counts}
use Rattle.due.specs.Laws.Size.{size-swap, size_is}
use Rattle.due.specs.Laws.Figure.{none-reached}

-- ---- both ways round

pub eqb_swap : (a b : ℕ) → eqb a b ≡ eqb b a
eqb_swap a b = go (eqb a b) refl
  where
    go : (t : Bool) → eqb a b ≡ t → t ≡ eqb b a
    go true e = sym (eq-eqb b a (sym (eqb-true a b e)))
    go false e = sym (ne_eqb b a (λ q. eqb-false a b e (sym q)))

depth-swap : (d a b : ℕ) → depth_counts d a b ≡ depth_counts d b a
unfolding depth_counts
depth-swap d a b = rw (size-swap a b) (go (eqb a not_reported) (eqb b not_reported) (is_significant d (size (rise b a))))
  where
    go : (t u r : Bool) → cond t (not u) (cond u true r) ≡ cond u (not t) (cond t true r)
    go true true r = refl
    go true false r = refl
    go false true r = refl
    go false false r = refl

pub third-swap : (a b : Third) → third_counts a b ≡ third_counts b a
unfolding third_counts
third-swap a b =
    rw (eqb_swap a.code b.code, eqb_swap a.coverage b.coverage, eqb_swap a.description b.description)
    (go (eqb b.code a.code) (eqb b.coverage a.coverage) (eqb b.description a.description) refl)
  where
    go : (t u v : Bool) → eqb b.description a.description ≡ v
        → cond t (cond u (cond v (depth_counts b.description a.depth b.depth) true) true) true
        ≡ cond t (cond u (cond v (depth_counts a.description b.depth a.depth) true) true) true
    go false u v e = refl
    go true false v e = refl
    go true true false e = refl
    go true true true e = rw (eqb-true b.description a.description e) (depth-swap a.description a.depth b.depth)

-- ---- the depths alone

-- all but the depth is the same
pub record Alike (a b : Third) : Type 0 where
  pub code : a.code ≡ b.code
  pub coverage : a.coverage ≡ b.coverage
  pub description : a.description ≡ b.description

pub alike-counts : (a b : Third) → Alike a b → third_counts a b ≡ depth_counts b.description a.depth b.depth
unfolding third_counts
alike-counts a b s =
    rw (eq-eqb a.code b.code s.code, eq-eqb a.coverage b.coverage s.coverage, eq-eqb a.description b.description s.description)

pub numbers-count : (d a b : ℕ) → (a ≡ not_reported → ⊥) → (b ≡ not_reported → ⊥) → depth_counts d a b ≡ is_significant d (size (rise a b))
unfolding depth_counts
numbers-count d a b p q = rw (ne_eqb a not_reported p, ne_eqb b not_reported q)

pub nothing-counts : (d a b : ℕ) → a ≡ not_reported → b ≡ not_reported → depth_counts d a b ≡ false
unfolding depth_counts
nothing-counts d a b p q = rw (eq-eqb a not_reported p, eq-eqb b not_reported q)

-- a depth that is the same does not count, whatever it is
same-depth : (d a : ℕ) → depth_counts d a a ≡ false
unfolding depth_counts
same-depth d a = rw (zero-rise, none-reached d) (go (eqb a not_reported))
  where
    zero-rise : size (rise a a) ≡ 0
    zero-rise = omega (arith, size_is a a)

    go : (t : Bool) → cond t (not t) (cond t true false) ≡ false
    go true = refl
    go false = refl

pub third-self : (a : Third) → third_counts a a ≡ false
third-self a = alike-counts a a (record { code = refl; coverage = refl; description = refl }) ∙ same-depth a.description a.depth

-- ---- the sentences of the request

pub unless : (t : Bool) {b : Bool} → b ≡ true → cond t b true ≡ true
unless true h = h
unless false h = refl
