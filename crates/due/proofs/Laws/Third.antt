-- A third against another: each sentence of the request, and both ways round.
use Rattle.std.specs.Prelude.{ℕ, ◌+◌, ◌≡◌, refl, cond, Bool, true, false, not, eqb, leb}
use Rattle.std.proofs.Common.{sym, ◌∙◌, eqb-true, eq-eqb, ne_eqb, leb-true, le-leb}
use Rattle.std.proofs.lemmas.Bool.{eqb-false, not-true}
use Rattle.text.specs.Choice.{◌and◌}
use Rattle.text.specs.Laws.Base.{and-1, and-2}
use Rattle.surface.specs.declared.Third.{Third}
use Rattle.surface.specs.Descriptions.{not_reported, is_deep}
use Rattle.surface.specs.Third.{is_reported, valid_depth, valid_third}
use Rattle.due.specs.Third.{rise, size, figure, is_significant, depth_counts, third_counts}
use Rattle.due.specs.Counts.{Figure, Moved, up, down, Counts, by_code, by-coverage, by-description, by_number, by-nr, by-depth}
use Rattle.due.specs.Laws.Size.{size_reaches}
use Rattle.due.proofs.Laws.Figure.{deep-figure, figure-reached}
use Rattle.due.specs.Laws.Third.{numbers-count, unless}

-- ---- the depths alone

-- every depth of a valid third has its figure
pub has-figure : (t : Third) → valid_third t ≡ true → (t.depth ≡ not_reported → ⊥) → Figure t.description (figure t.description)
unfolding valid_third valid_depth is_reported
has-figure t v n =
    let d = rw (ne_eqb t.depth not_reported n) at (and-2 _ _ (and-2 _ _ (and-2 _ _ v))) in
    deep-figure t.description (and-1 _ _ (and-1 _ _ d))

-- ---- the sentences of the request

-- what its depth decides counts, also where something else counts already
depth-counts : (a b : Third) → (a.description ≡ b.description → depth_counts b.description a.depth b.depth ≡ true) → third_counts a b ≡ true
unfolding third_counts
depth-counts a b h = unless (eqb a.code b.code) (unless (eqb a.coverage b.coverage) (go (eqb a.description b.description) refl))
  where
    go : (t : Bool) → eqb a.description b.description ≡ t → cond t (depth_counts b.description a.depth b.depth) true ≡ true
    go false e = refl
    go true e = h (eqb-true a.description b.description e)

moved-reaches : {f a b : ℕ} → Moved f a b → leb f (size (rise a b)) ≡ true
moved-reaches {f} {a} {b} (up h) = size_reaches f a b ∙ rw (le-leb (a + f) b h)
moved-reaches {f} {a} {b} (down h) = size_reaches f a b ∙ rw (le-leb (b + f) a h) (go (leb (a + f) b))
  where
    go : (t : Bool) → cond t true true ≡ true
    go true = refl
    go false = refl

pub each_counts : (a b : Third) → Counts a b → third_counts a b ≡ true
unfolding third_counts depth_counts
each_counts a b (by_code h) = rw (ne_eqb a.code b.code h)
each_counts a b (by-coverage h) = rw (ne_eqb a.coverage b.coverage h) (unless (eqb a.code b.code) refl)
each_counts a b (by-description h) =
    rw (ne_eqb a.description b.description h) (unless (eqb a.code b.code) (unless (eqb a.coverage b.coverage) refl))
each_counts a b (by_number p q) = depth-counts a b (λ e. rw (eq-eqb a.depth not_reported p, ne_eqb b.depth not_reported q))
each_counts a b (by-nr p q) = depth-counts a b (λ e. rw (ne_eqb a.depth not_reported p, eq-eqb b.depth not_reported q))
each_counts a b (by-depth s g p q m) =
    depth-counts a b
    (λ e. numbers-count b.description a.depth b.depth p q ∙ (figure-reached g (size (rise a.depth b.depth)) ∙ moved-reaches m))

-- and nothing else does
reaches-moved : (f a b : ℕ) → leb f (size (rise a b)) ≡ true → Moved f a b
reaches-moved f a b h = go (leb (a + f) b) refl (sym (size_reaches f a b) ∙ h)
  where
    go : (u : Bool) → leb (a + f) b ≡ u → cond u true (leb (b + f) a) ≡ true → Moved f a b
    go true e k = up (leb-true (a + f) b e)
    go false e k = down (leb-true (b + f) a k)

depth-reason : (a b : Third) → a.description ≡ b.description → depth_counts b.description a.depth b.depth ≡ true → Counts a b
unfolding depth_counts is_significant
depth-reason a b s h = go (eqb a.depth not_reported) refl (eqb b.depth not_reported) refl h
  where
    d : ℕ
    d = b.description

    reached : (is_deep d and leb (figure d) (size (rise a.depth b.depth))) ≡ true → (a.depth ≡ not_reported → ⊥) → (b.depth ≡ not_reported → ⊥) → Counts a b
    reached k p q = by-depth s (deep-figure d (and-1 _ _ k)) p q (reaches-moved (figure d) a.depth b.depth (and-2 _ _ k))

    go : (t : Bool) → eqb a.depth not_reported ≡ t → (u : Bool) → eqb b.depth not_reported ≡ u
        → cond t (not u) (cond u true (is_deep d and leb (figure d) (size (rise a.depth b.depth)))) ≡ true → Counts a b
    go true e u r k = by_number (eqb-true a.depth not_reported e) (eqb-false b.depth not_reported (r ∙ not-true u k))
    go false e true r k = by-nr (eqb-false a.depth not_reported e) (eqb-true b.depth not_reported r)
    go false e false r k = reached k (eqb-false a.depth not_reported e) (eqb-false b.depth not_reported r)

pub reason : (a b : Third) → third_counts a b ≡ true → Counts a b
unfolding third_counts
reason a b h = go (eqb a.code b.code) refl (eqb a.coverage b.coverage) refl (eqb a.description b.description) refl h
  where
    go : (t : Bool) → eqb a.code b.code ≡ t → (u : Bool) → eqb a.coverage b.coverage ≡ u → (v : Bool) → eqb a.description b.description ≡ v
        → cond t (cond u (cond v (depth_counts b.description a.depth b.depth) true) true) true ≡ true → Counts a b
    go false e u f v g k = by_code (eqb-false a.code b.code e)
    go true e false f v g k = by-coverage (eqb-false a.coverage b.coverage f)
    go true e true f false g k = by-description (eqb-false a.description b.description g)
    go true e true f true g k = depth-reason a b (eqb-true a.description b.description g) k
