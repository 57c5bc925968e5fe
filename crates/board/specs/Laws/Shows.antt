-- What a runway shows grows with the reports, is one row, and forgets their order where no two bear one time.
use Rattle.std.specs.Prelude.{ℕ, ◌≡◌, refl, cond, Bool, true, false, ◌⊎◌, eqb}
use Rattle.std.proofs.Common.{sym, subst, ◌∙◌, ap, inl, inr, eqb-true, eq-eqb}
use mathlib.Core.List.Memᴰ
use mathlib.Core.List.{List, [], ◌∷◌, ◌++◌, append_assoc, Memᴰ}
use mathlib.Core.List.{Permᴰ}
use Rattle.text.specs.Choice.{◌and◌}
use Rattle.text.specs.Laws.Base.{true-false, and-1, and-2, and_i}
use Rattle.row.specs.declared.Row.{Row}
use Rattle.runway.specs.Time.{real_time, later}
use Rattle.row.specs.Row.{valid_row}
use Rattle.runway.specs.Laws.Time.{later-self, later-total, later-back, later-over}
use Rattle.board.specs.declared.Runway.{Runway}
use Rattle.board.specs.Board.{names}
use Rattle.board.specs.declared.Sent.{Sent}
use Rattle.board.specs.Laws.Rows.{row-real}
use Rattle.board.specs.Shows.{Shown, nothing, row, ◌IsIn◌, ReportFor, Last, Shows, shows-none, shows-row, Apart}

abbrev pub newer : Row → Shown → Bool
newer r nothing = true
newer r (row p) = later r.time p.time

-- the report is the owner's, valid and for the runway, and a further test holds
abbrev counts : Runway → ℕ → Sent → Bool → Bool
counts w o x t = eqb x.desk o and valid_row x.row and names x.row w and t

-- what a place shows after one more report
abbrev pub next : Runway → ℕ → Sent → Shown → Shown
next w o x s = cond (counts w o x (newer x.row s)) (row x.row) s

module _ (w : Runway) (o : ℕ) where
  real : {x : Sent} → ReportFor w o x → real_time x.row.time ≡ true
  real {x} f = row-real x.row f.valid

  whole : (x : Sent) (t : Bool) → counts w o x t ≡ true → ReportFor w o x
  whole x t h =
      let h₁ = and-2 _ _ h in
      record { sender = eqb-true x.desk o (and-1 _ _ h); valid = and-1 _ _ h₁; named = and-1 _ _ (and-2 _ _ h₁) }

  all_of : {x : Sent} {t : Bool} → ReportFor w o x → t ≡ true → counts w o x t ≡ true
  all_of {x} f e = and_i (eq-eqb x.desk o f.sender) (and_i f.valid (and_i f.named e))

  -- none of those of the list is later
  pub last-top : {rs : List Sent} {p : Sent} → Last w o rs p → (q : Sent) → q IsIn rs → ReportFor w o q → later q.row.time p.row.time ≡ false
  last-top {rs} {p} l q m f = go (Memᴰ.append_cases l.before (subst (λ k. Memᴰ q k) l.split m))
    where
      at : (q ≡ p) ⊎ Memᴰ q l.after → later q.row.time p.row.time ≡ false
      at (inl e) = rw e (later-self p.row.time (real l.for))
      at (inr n) = l.under q n f

      go : Memᴰ q l.before ⊎ Memᴰ q (p ∷ l.after) → later q.row.time p.row.time ≡ false
      go (inl n) = later-back p.row.time q.row.time (real l.for) (real f) (l.over q n f)
      go (inr n) = at (Memᴰ.cases_cons n)

  pub last-in : {rs : List Sent} {p : Sent} → Last w o rs p → p IsIn rs
  last-in {rs} {p} l = subst (λ k. Memᴰ p k) (sym l.split) (Memᴰ.append_right l.before (Memᴰ.head refl))

  grow-none : (rs : List Sent) (r : Sent) → ((q : Sent) → q IsIn rs → ReportFor w o q → ⊥) → (t : Bool) → counts w o r true ≡ t
      → Shows w o (rs ++ r ∷ []) (cond t (row r.row) nothing)
  grow-none rs r h true e = shows-row (record {
    before = rs;
    after = [];
    split = refl;
    for = whole r true e;
    over = λ q m f. absurd (h q m f);
    under = λ q m f. absurd (Memᴰ.not-nil m);
  })
  grow-none rs r h false e = shows-none (λ q m f. go q f (Memᴰ.append_cases rs m))
    where
      go : (q : Sent) → ReportFor w o q → Memᴰ q rs ⊎ Memᴰ q (r ∷ []) → ⊥
      go q f (inl m) = h q m f
      go q f (inr m) =
          let g = subst (ReportFor w o) (Memᴰ.eq_of_singleton m) f in
          true-false (sym (all_of g refl) ∙ e)

  grow-row : (rs : List Sent) (r p : Sent) → Last w o rs p → (t : Bool) → counts w o r (later r.row.time p.row.time) ≡ t
      → Shows w o (rs ++ r ∷ []) (cond t (row r.row) (row p.row))
  grow-row rs r p l true e = shows-row (record {
    before = rs;
    after = [];
    split = refl;
    for = whole r (later r.row.time p.row.time) e;
    over = λ q m f. later-over r.row.time p.row.time q.row.time (real (whole r (later r.row.time p.row.time) e)) (real l.for) (real f)
        (and-2 _ _ (and-2 _ _ (and-2 _ _ e))) (last-top l q m f);
    under = λ q m f. absurd (Memᴰ.not-nil m);
  })
  grow-row rs r p l false e = shows-row (record {
    before = l.before;
    after = l.after ++ r ∷ [];
    split = ap (λ k. k ++ r ∷ []) l.split ∙ append_assoc l.before (p ∷ l.after) (r ∷ []);
    for = l.for;
    over = l.over;
    under = λ q m f. go q f (Memᴰ.append_cases l.after m);
  })
    where
      old : ReportFor w o r → (t : Bool) → later r.row.time p.row.time ≡ t → t ≡ false
      old g true k = sym (all_of g k) ∙ e
      old g false k = refl

      go : (q : Sent) → ReportFor w o q → Memᴰ q l.after ⊎ Memᴰ q (r ∷ []) → later q.row.time p.row.time ≡ false
      go q f (inl m) = l.under q m f
      go q f (inr m) =
          let i = Memᴰ.eq_of_singleton m in
          rw i (old (subst (ReportFor w o) i f) (later r.row.time p.row.time) refl)

  -- one more report at the end
  pub grow : (rs : List Sent) (r : Sent) (s : Shown) → Shows w o rs s → Shows w o (rs ++ r ∷ []) (next w o r s)
  grow rs r nothing (shows-none h) = grow-none rs r h (counts w o r true) refl
  grow rs r _ (shows-row {x = p} l) = grow-row rs r p l (counts w o r (later r.row.time p.row.time)) refl

  -- with none, nothing
  pub empty : Shows w o [] nothing
  empty = shows-none (λ q m f. Memᴰ.not-nil m)

  -- two lists of the same reports, no two of one time
  pub shows-moved : {xs ys : List Sent} {a b : Shown} → ((q : Sent) → q IsIn xs → q IsIn ys) → ((q : Sent) → q IsIn ys → q IsIn xs) → Apart w o xs
      → Shows w o xs a → Shows w o ys b → a ≡ b
  shows-moved to from apart (shows-none h) (shows-none k) = refl
  shows-moved to from apart (shows-none h) (shows-row {x = q} k) = absurd (h q (from q (last-in k)) k.for)
  shows-moved to from apart (shows-row {x = p} h) (shows-none k) = absurd (k p (to p (last-in h)) h.for)
  shows-moved to from apart (shows-row {x = p} h) (shows-row {x = q} k) =
      let m = from q (last-in k) in
      let x = last-top h q m k.for in
      let y = last-top k p (to p (last-in h)) h.for in
      ap (λ x. row x.row) (apart p q (last-in h) m h.for k.for (later-total p.row.time q.row.time (real h.for) (real k.for) y x))

-- two places of one list: the same, or one before the other
two-splits : {p q : Sent} (xs ys us vs : List Sent) → xs ++ p ∷ ys ≡ us ++ q ∷ vs → (p ≡ q) ⊎ ((q IsIn xs) × (p IsIn vs)) ⊎ ((p IsIn us) × (q IsIn ys))
two-splits [] ys [] vs e = inl (cc)
two-splits {p} {q} [] ys (u ∷ us) vs e =
    let h : p ≡ u = cc in
    let t : ys ≡ us ++ q ∷ vs = cc in
    inr (inr (Memᴰ.head h, subst (λ k. Memᴰ q k) (sym t) (Memᴰ.append_right us (Memᴰ.head refl))))
two-splits {p} {q} (x ∷ xs) ys [] vs e =
    let h : q ≡ x = cc in
    let t : vs ≡ xs ++ p ∷ ys = cc in
    inr (inl (Memᴰ.head h, subst (λ k. Memᴰ p k) (sym t) (Memᴰ.append_right xs (Memᴰ.head refl))))
two-splits {p} {q} (x ∷ xs) ys (u ∷ us) vs e =
    let t : xs ++ p ∷ ys ≡ us ++ q ∷ vs = cc in
    go (two-splits xs ys us vs t)
  where
    go : (p ≡ q) ⊎ ((q IsIn xs) × (p IsIn vs)) ⊎ ((p IsIn us) × (q IsIn ys)) → (p ≡ q) ⊎ ((q IsIn (x ∷ xs)) × (p IsIn vs)) ⊎ ((p IsIn (u ∷ us)) × (q IsIn ys))
    go (inl i) = inl i
    go (inr (inl m)) = inr (inl (Memᴰ.tail m.0, m.1))
    go (inr (inr m)) = inr (inr (Memᴰ.tail m.0, m.1))

last_one : (w : Runway) (o : ℕ) {rs : List Sent} {p q : Sent} → Last w o rs p → Last w o rs q → p ≡ q
last_one w o {rs} {p} {q} h k = go (two-splits h.before h.after k.before k.after (sym h.split ∙ k.split))
  where
    go : (p ≡ q) ⊎ ((q IsIn h.before) × (p IsIn k.after)) ⊎ ((p IsIn k.before) × (q IsIn h.after)) → p ≡ q
    go (inl e) = e
    go (inr (inl m)) = true-false (sym (h.over q m.0 k.for) ∙ k.under p m.1 h.for)
    go (inr (inr m)) = true-false (sym (k.over p m.0 h.for) ∙ h.under q m.1 k.for)

-- no two answers
pub shows-one : (w : Runway) (o : ℕ) {rs : List Sent} {a b : Shown} → Shows w o rs a → Shows w o rs b → a ≡ b
shows-one w o (shows-none h) (shows-none k) = refl
shows-one w o (shows-none h) (shows-row {x = q} k) = absurd (h q (last-in w o k) k.for)
shows-one w o (shows-row {x = p} h) (shows-none k) = absurd (k p (last-in w o h) h.for)
shows-one w o (shows-row h) (shows-row k) = ap (λ x. row x.row) (last_one w o h k)

-- the same in another order
below : {A : Type 0} {q a b : A} {xs ys : List A} → a ≡ b → (Memᴰ q xs → Memᴰ q ys) → Memᴰ q (a ∷ xs) → Memᴰ q (b ∷ ys)
below {q = q} {a = a} {b = b} {xs = xs} {ys = ys} e f m = go (Memᴰ.cases_cons m)
  where
    go : (q ≡ a) ⊎ Memᴰ q xs → Memᴰ q (b ∷ ys)
    go (inl i) = Memᴰ.head (i ∙ e)
    go (inr n) = Memᴰ.tail (f n)

swapped : {A : Type 0} {q a b c d : A} {xs : List A} → a ≡ d → b ≡ c → Memᴰ q (a ∷ b ∷ xs) → Memᴰ q (c ∷ d ∷ xs)
swapped {q = q} {a = a} {b = b} {c = c} {d = d} {xs = xs} e f m = go (Memᴰ.cases_cons m)
  where
    go : (q ≡ a) ⊎ Memᴰ q (b ∷ xs) → Memᴰ q (c ∷ d ∷ xs)
    go (inl i) = Memᴰ.tail (Memᴰ.head (i ∙ e))
    go (inr n) = below f Memᴰ.tail n

pub permuted : {A : Type 0} {xs ys : List A} → Permᴰ xs ys → (q : A) → Memᴰ q xs → Memᴰ q ys
permuted Permᴰ.nil q m = m
permuted (Permᴰ.cons e d) q m = below e (permuted d q) m
permuted (Permᴰ.swap e f) q m = swapped e f m
permuted (Permᴰ.trans d f) q m = permuted f q (permuted d q m)
