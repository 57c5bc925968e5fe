-- Of the rows that a board shows, given to a fresh board each by its own desk, none is refused.
use Rattle.std.specs.Prelude.{ℕ, suc, ◌+◌, ◌-◌, ◌<◌, ◌≤◌, ◌≡◌, cond, Bool, ◌⊎◌, eqb, take}
use Rattle.std.proofs.Math.Path.{refl, sym, subst, ap, ap₂}
use Rattle.std.proofs.Common.{◌∙◌, inl, inr, eq-eqb, arith}
use mathlib.Core.List.Memᴰ
use mathlib.Core.List.{List, [], ◌∷◌, ◌++◌, map, map-append, append_assoc, Memᴰ}
use mathlib.Core.List.{Permᴰ}
use Rattle.std.proofs.Math.Bool.{true, false}
use Rattle.std.proofs.Math.ListN.{get_or}
use Rattle.text.specs.Choice.{all}
use Rattle.text.specs.Arrays.{is_zero}
use Rattle.text.specs.Laws.Base.{and_i}
use Rattle.row.specs.declared.Row.{Row}
use Rattle.row.specs.Row.{valid_row, blank_row, is_blank_row}
use Rattle.board.specs.declared.Board.{Board}
use Rattle.board.specs.declared.Sent.{Sent}
use Rattle.board.specs.Board.{names, reported, valid_board}
use Rattle.board.specs.Report.{place_of, place_for, row_at, owner_at, is_news, refusal, report}
use Rattle.board.specs.Runs.{by_owner, reports, answers_to}
use Rattle.board.specs.Shows.{Shown, nothing, row, runway_at, shown_at, ◌IsIn◌, Shows, shows-none, shows-row}
use Rattle.board.specs.Laws.Rules.{SameList, rules, owner-desk}
use Rattle.board.proofs.Laws.Rules.{refused-0}
use Rattle.board.specs.Laws.Shows.{last-in, permuted}
use Rattle.board.specs.Laws.Restore.{in_place, own_row, here, placed}

-- how many of a list pass a test
one : Bool → ℕ
one t = cond t 1 0

count : {A : Type 0} → (A → Bool) → List A → ℕ
count p [] = 0
count p (a ∷ l) = one (p a) + count p l

count-moved : {A : Type 0} (p : A → Bool) {xs ys : List A} → Permᴰ xs ys → count p xs ≡ count p ys
unfolding count
count-moved p Permᴰ.nil = refl
count-moved p (Permᴰ.cons e d) = ap₂ (λ x n. one (p x) + n) e (count-moved p d)
count-moved p (Permᴰ.swap {l = l} e f) = rw (e, f) (omega arith)
count-moved p (Permᴰ.trans d f) = count-moved p d ∙ count-moved p f

count-append : {A : Type 0} (p : A → Bool) (xs ys : List A) → count p (xs ++ ys) ≡ count p xs + count p ys
unfolding count
count-append p [] ys = omega arith
count-append p (x ∷ xs) ys = let i = count-append p xs ys in omega arith

count-some : {A : Type 0} (p : A → Bool) (x : A) (l : List A) → Memᴰ x l → p x ≡ true → 1 ≤ count p l
unfolding count one
count-some p x [] m h = absurd (Memᴰ.not-nil m)
count-some p x (a ∷ l) m h = go (Memᴰ.cases_cons m) (λ n. count-some p x l n h)
  where
    go : (x ≡ a) ⊎ Memᴰ x l → (Memᴰ x l → 1 ≤ count p l) → 1 ≤ one (p a) + count p l
    go (inl e) ih = rw (sym (ap p e) ∙ h) (omega arith)
    go (inr n) ih = let k = ih n in omega arith

-- the rows shown that pass a test which holds at one place at most
count_none : (p : Row → Bool) (rs : List Row) → ((j : ℕ) → is_blank_row (get_or rs j blank_row) ≡ false → p (get_or rs j blank_row) ≡ true → ⊥) → count p (reported rs) ≡ 0
unfolding count reported one
count_none p [] h = refl
count_none p (r ∷ rs) h = go (is_blank_row r) refl (p r) refl (count_none p rs (λ j e k. h (suc j) e k))
  where
    go : (t : Bool) → is_blank_row r ≡ t → (u : Bool) → p r ≡ u → count p (reported rs) ≡ 0 → count p (cond t (reported rs) (r ∷ reported rs)) ≡ 0
    go true e u f i = i
    go false e true f i = absurd (h 0 e f)
    go false e false f i = rw (f, i)

count-once : (p : Row → Bool) (rs : List Row) (i : ℕ) → ((j : ℕ) → is_blank_row (get_or rs j blank_row) ≡ false → p (get_or rs j blank_row) ≡ true → j ≡ i) → count p (reported rs) ≤ 1
unfolding count reported one
count-once p [] i h = omega arith
count-once p (r ∷ rs) i h = go (is_blank_row r) refl (p r) refl (count-once p rs (i - 1) (λ j e k. let z = h (suc j) e k in omega arith))
  where
    go : (t : Bool) → is_blank_row r ≡ t → (u : Bool) → p r ≡ u → count p (reported rs) ≤ 1 → count p (cond t (reported rs) (r ∷ reported rs)) ≤ 1
    go true e u f k = k
    go false e true f k =
        let z = h 0 e f in
        let none = count_none p rs (λ j g m. let y = h (suc j) g m in absurd (omega arith)) in
        rw (f, none) (omega arith)
    go false e false f k = rw f (omega arith)

reports-last : (b : Board) (xs : List Sent) (x : Sent) → reports b (xs ++ (x ∷ [])) ≡ (report (reports b xs) x.desk x.row).board
unfolding reports
reports-last b [] x = refl
reports-last b (y ∷ xs) x = reports-last (report b y.desk y.row).board xs x

answered : (b : Board) (d : ℕ) (r : Row) → (report b d r).refusal ≡ refusal b d r
unfolding report
answered b d r = refl

-- the rows that b shows, in any order, given to f, which has its list and owners and shows nothing of its own
module _ (b : Board) (v : valid_board b ≡ true) (f : Board) (rs : List Row) (moved : Permᴰ rs (reported b.rows))
    (stays : (xs : List Sent) → valid_board (reports f xs) ≡ true)
    (list : (xs : List Sent) → SameList b (reports f xs))
    (shown : (xs : List Sent) (i : ℕ) → i < b.count → Shows (runway_at b i) (owner_at b i) xs (shown_at (reports f xs) i)) where
  -- a row behind others: its place is empty still
  module _ (before : List Row) (r : Row) (after : List Row) (split : rs ≡ before ++ (r ∷ after)) where
    abbrev xs : List Sent
    xs = map (by_owner b) before

    abbrev c : Board
    c = reports f xs

    was-shown : Memᴰ r (reported b.rows)
    was-shown = permuted moved r (subst (λ l. Memᴰ r l) (sym split) (Memᴰ.append_right before (Memᴰ.head refl)))

    module _ (j : ℕ) (l : j < b.count) (is : row_at b j ≡ r) (e : is_blank_row (row_at b j) ≡ false) where
      named : names r (runway_at b j) ≡ true
      named = subst (λ q. names q (runway_at b j) ≡ true) is (own_row b v j l e).named

      abbrev test : Row → Bool
      test q = names q (runway_at b j)

      once : count test rs ≤ 1
      once =
          rw (count-moved test moved) (count-once test b.rows j (λ k g n.
          let u = in_place b v k g in
          sym (here b v (row_at b k) k u (own_row b v k u g).named) ∙ here b v (row_at b k) j l n))

      not-before : (x : Sent) → x IsIn xs → names x.row (runway_at b j) ≡ true → ⊥
      unfolding count one
      not-before x m n =
          let t = Memᴰ.of_map (by_owner b) before m in
          let q = subst (λ a. Memᴰ a before) (ap (λ y. y.row) t.2) t.1 in
          let k = count-some test x.row before q n in
          let a : count test rs ≡ count test before + (one (test r) + count test after) = ap (count test) split ∙ count-append test before (r ∷ after) in
          let o : one (test r) ≡ 1 = rw named in
          let h = once in
          absurd (omega arith)

      empty : is_blank_row (row_at c j) ≡ true
      empty = go (shown xs j l) refl
        where
          none : (t : Bool) → nothing ≡ cond t nothing (row (row_at c j)) → t ≡ true
          none true z = refl
          none false z = let y : ◌≡◌ {A = ℕ} 0 1 = cc in absurd (omega arith)

          go : {s : Shown} → Shows (runway_at b j) (owner_at b j) xs s → s ≡ shown_at c j → is_blank_row (row_at c j) ≡ true
          go (shows-none h) z = none (is_blank_row (row_at c j)) z
          go (shows-row {x = x} h) z = absurd (not-before x (last-in (runway_at b j) (owner_at b j) h) h.for.named)

      same_place : place_for c r ≡ j
      same_place = ap₂ (λ n ws. place_of r (take n ws)) (list xs).count (list xs).runways ∙ here b v r j l named

      taken_here : refusal c (by_owner b r).desk r ≡ 0
      unfolding is_news
      taken_here =
          let k = here b v r j l named in
          let s = list xs in
          let o : owner_at b (place_for b r) ≡ owner_at b j = ap (owner_at b) k in
          let w : owner_at c (place_for c r) ≡ owner_at b j = ap₂ (λ os i. get_or os i 0) s.owners same_place in
          let n = s.count in
          let p : place_for c r < c.count = rw same_place (omega arith) in
          refused-0 c (owner_at b (place_for b r)) r (stays xs) (rw o (owner-desk b (rules b v) j l)) (subst (λ q. valid_row q ≡ true) is (own_row b v j l e).valid) p
          (eq-eqb _ _ (o ∙ sym w)) (rw (same_place, empty))

    pub row-taken : refusal c (by_owner b r).desk r ≡ 0
    row-taken = let (j, l, is, e) = placed b v r was-shown in taken_here j l is e

  -- so each desk is answered 0, as often as it reports
  pub all-taken : (d : ℕ) (before after : List Row) → rs ≡ before ++ after → all is_zero (answers_to d (reports f (map (by_owner b) before)) (map (by_owner b) after)) ≡ true
  unfolding answers_to
  all-taken d before [] e = refl
  all-taken d before (r ∷ after) e =
      let c = reports f (map (by_owner b) before) in
      let x = by_owner b r in
      let z = answered c x.desk r ∙ row-taken before r after e in
      let on : reports f (map (by_owner b) (before ++ (r ∷ []))) ≡ (report c x.desk r).board =
      ap (reports f) (map-append (by_owner b) before (r ∷ [])) ∙ reports-last f (map (by_owner b) before) x in
      let ih = subst (λ y. all is_zero (answers_to d y (map (by_owner b) after)) ≡ true) on (all-taken d (before ++ (r ∷ [])) after (e ∙ sym (append_assoc before (r ∷ []) after))) in
      go (eqb x.desk d) (report c x.desk r).refusal (answers_to d (report c x.desk r).board (map (by_owner b) after)) z ih
    where
      go : (t : Bool) (n : ℕ) (l : List ℕ) → n ≡ 0 → all is_zero l ≡ true → all is_zero (cond t (n ∷ l) l) ≡ true
      go true n l h k = and_i (eq-eqb n 0 h) k
      go false n l h k = k
