-- One report at one place: what the place shows goes on by `next`.
use Rattle.std.specs.Prelude.{ℕ, ◌<◌, ◌≡◌, Bool, eqb, get_or}
use Rattle.std.proofs.Math.Path.{refl, sym, subst, ap}
use Rattle.std.proofs.Common.{◌∙◌, get_or-take, get_or-set_same, get_or-set_other, eqb-true, eq-eqb, arith}
use Rattle.std.proofs.Math.Bool.{cond, true, false}
use Rattle.text.specs.Choice.{◌and◌}
use Rattle.text.specs.Laws.Base.{true-false, and-1, and-2, and_i}
use Rattle.row.specs.declared.Row.{Row}
use Rattle.runway.specs.Time.{later}
use Rattle.row.specs.Row.{valid_row, blank_row, is_blank_row}
use Rattle.text.specs.Refusals.{not_later, others_runway}
use Rattle.runway.specs.Laws.Time.{later-self}
use Rattle.board.specs.declared.Board.{Board}
use Rattle.board.specs.Board.{blank_runway, names, runways_of, is_desk, valid_board, answer}
use Rattle.board.specs.Report.{place_for, row_at, owner_at, is_news, refusal, stored, report}
use Rattle.board.specs.Runs.{◌sends◌}
use Rattle.board.specs.Shows.{nothing, row, shown, runway_at, shown_at}
use Rattle.board.specs.Laws.Rows.{valid-not-blank, row-real}
use Rattle.board.specs.Laws.Shows.{newer, next}
use Rattle.board.specs.Laws.Rules.{place_is, rules, used, owner-desk, takes, report-board, Took, took-names}
use Rattle.board.proofs.Laws.Rules.{took, stored-valid}
use Rattle.board.proofs.Laws.Rules.{refused-0, refused-20, refused-22}
use Rattle.board.specs.Laws.Step.{shown-valid}

news-newer : (r p : Row) → is_news r p ≡ newer r (shown p)
unfolding is_news
news-newer r p = go (is_blank_row p)
  where
    go : (t : Bool) → cond t true (later r.time p.time) ≡ newer r (cond t nothing (row p))
    go true = refl
    go false = refl

old : (r : Row) → valid_row r ≡ true → is_news r r ≡ false
unfolding is_news
old r v = rw (valid-not-blank r v) (later-self r.time (row-real r v))

-- two tests that hold together
both : (x y : Bool) → (x ≡ true → y ≡ true) → (y ≡ true → x ≡ true) → x ≡ y
both true y to from = sym (to refl)
both false false to from = refl
both false true to from = from refl

module _ (b : Board) (v : valid_board b ≡ true) (d : ℕ) (r : Row) (i : ℕ) (l : i < b.count) where
  abbrev k : ℕ
  k = place_for b r

  in_use : get_or (runways_of b) i blank_runway ≡ runway_at b i
  in_use = get_or-take b.count b.runways i blank_runway l

  -- the report is the owner's, valid, for the runway and newer
  abbrev counts : Bool
  counts = eqb d (owner_at b i) and valid_row r and names r (runway_at b i) and newer r (shown_at b i)

  -- the report names the place
  here : names r (runway_at b i) ≡ true → k ≡ i
  here n =
      let q = rules b v in
      let u = used b q in
      place_is blank_runway blank_runway r (runways_of b) i q.rise (omega arith) (rw in_use n)

  taken-counts : names r (runway_at b i) ≡ true → takes b d r ≡ true → counts ≡ true
  taken-counts n h =
      let t = took b d r h in
      and_i (eq-eqb d (owner_at b i) (t.owner ∙ ap (owner_at b) (here n)))
      (and_i t.valid (and_i n (sym (news-newer r (row_at b i)) ∙ (ap (λ j. is_news r (row_at b j)) (sym (here n)) ∙ t.news))))

  counts-taken : names r (runway_at b i) ≡ true → counts ≡ true → takes b d r ≡ true
  counts-taken n h =
      let o = and-1 _ _ h in
      let h₁ = and-2 _ _ h in
      let e = sym (here n) in
      eq-eqb (refusal b d r) 0
      (refused-0 b d r v (subst (λ x. is_desk x ≡ true) (sym (eqb-true d (owner_at b i) o)) (owner-desk b (rules b v) i l)) (and-1 _ _ h₁)
      (subst (λ j. j < b.count) e l) (subst (λ j. eqb d (owner_at b j) ≡ true) e o)
      (subst (λ j. is_news r (row_at b j) ≡ true) e (news-newer r (row_at b i) ∙ and-2 _ _ (and-2 _ _ h₁))))

  store : (t : Bool) → (t ≡ true → valid_row r ≡ true) → shown_at (cond t (stored b i r) b) i ≡ cond t (row r) (shown_at b i)
  store true h =
      let q = rules b v in
      let f = q.few in
      let g = q.high in
      rw (get_or-set_same b.rows i r blank_row (omega arith)) (shown-valid r (h refl))
  store false h = refl

  -- it names another
  none : names r (runway_at b i) ≡ false → next (runway_at b i) (owner_at b i) (d sends r) (shown_at b i) ≡ shown_at b i
  unfolding ◌and◌
  none n = rw n (go (eqb d (owner_at b i)) (valid_row r))
    where
      go : (s t : Bool) → cond (s and t and false) (row r) (shown_at b i) ≡ shown_at b i
      go true true = refl
      go true false = refl
      go false t = refl

  other : names r (runway_at b i) ≡ false → (t : Bool) → takes b d r ≡ t → shown_at (cond t (stored b k r) b) i ≡ shown_at b i
  other n false e = refl
  other n true e =
      let m = took-names b d r (took b d r e) in
      ap shown (get_or-set_other b.rows k i r blank_row
      (λ z. true-false (sym (subst (λ j. names r (get_or (runways_of b) j blank_runway) ≡ true) (sym z) m) ∙ (ap (names r) in_use ∙ n))))

  pub report-shown : shown_at (report b d r).board i ≡ next (runway_at b i) (owner_at b i) (d sends r) (shown_at b i)
  report-shown = ap (λ c. shown_at c i) (report-board b d r) ∙ go (names r (runway_at b i)) refl
    where
      go : (t : Bool) → names r (runway_at b i) ≡ t
          → shown_at (cond (takes b d r) (stored b k r) b) i ≡ next (runway_at b i) (owner_at b i) (d sends r) (shown_at b i)
      go true n =
          ap (λ j. shown_at (cond (takes b d r) (stored b j r) b) i) (here n)
          ∙ (ap (λ t. shown_at (cond t (stored b i r) b) i) (both (takes b d r) counts (taken-counts n) (counts-taken n))
          ∙ store counts (λ h. and-1 _ _ (and-2 _ _ h)))
      go false n = other n (takes b d r) refl ∙ sym (none n)

-- a report that was taken is refused when it comes again: by 20 from its desk, by 22 from the other
module _ (b c : Board) (d : ℕ) (r : Row) (e : report b d r ≡ answer 0 c) where
  went : Took b d r
  unfolding report
  went = took b d r (eq-eqb (refusal b d r) 0 (ap (λ a. a.refusal) e))

  abbrev after : Board
  after = stored b (place_for b r) r

  is : after ≡ c
  unfolding report
  is = sym (ap (λ n. cond (eqb n 0) after b) (ap (λ a. a.refusal) e)) ∙ ap (λ a. a.board) e

  holds_row : row_at after (place_for b r) ≡ r
  holds_row =
      let q = rules b went.good in
      let f = q.few in
      let g = q.high in
      let p = went.place in
      get_or-set_same b.rows (place_for b r) r blank_row (omega arith)

  answered : (f n : ℕ) → eqb n 0 ≡ false → refusal after f r ≡ n → report c f r ≡ answer n c
  unfolding report
  answered f n z q = subst (λ x. report x f r ≡ answer n x) is (rw (q, z) refl)

  pub again-20 : report c d r ≡ answer not_later c
  again-20 =
      let t = went in
      answered d not_later refl
      (refused-20 after d r (stored-valid b d r t)
      (subst (λ x. is_desk x ≡ true) (sym t.owner) (owner-desk b (rules b t.good) (place_for b r) t.place)) t.valid t.place
      (eq-eqb d (owner_at b (place_for b r)) t.owner) (ap (is_news r) holds_row ∙ old r t.valid))

  pub again-22 : (f : ℕ) → is_desk f ≡ true → eqb f d ≡ false → report c f r ≡ answer others_runway c
  again-22 f k n =
      let t = went in
      answered f others_runway refl (refused-22 after f r (stored-valid b d r t) k t.valid t.place (ap (eqb f) (sym t.owner) ∙ n))
