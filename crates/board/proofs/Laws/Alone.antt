-- What a desk sees does not depend on the other's reports: with them or without, its answers and its places are the same.
use Rattle.std.specs.Prelude.{ℕ, zero, suc, ◌≡◌, Bool, ltb, length, take, get_or, set}
use Rattle.std.proofs.Math.Path.{refl, sym}
use Rattle.std.proofs.Common.{◌∙◌, ap, get_or-set_other, arith}
use mathlib.Core.List.{List, [], ◌∷◌}
use Rattle.std.proofs.Math.Bool.{cond, true, false}
use Rattle.std.proofs.Math.Dec.{eqb}
use borrow.Author.Tests.{eqb-true, eq-eqb}
use Rattle.text.specs.Refusals.{not_later, not_on_board, invalid_row, wrong_board, others_runway, no_desk}
use Rattle.text.specs.Laws.Base.{true-false}
use Rattle.row.specs.declared.Row.{Row}
use Rattle.row.specs.Row.{valid_row, blank_row}
use Rattle.board.specs.declared.Board.{Board}
use Rattle.board.specs.Board.{is_desk, valid_board}
use Rattle.board.specs.Report.{place_of, place_for, row_at, owner_at, is_news, refusal, stored, report}
use Rattle.board.specs.declared.Sent.{Sent}
use Rattle.board.specs.Runs.{reports, from, answers_to}
use Rattle.board.specs.Laws.Rules.{rules, takes, report-board}
use Rattle.board.proofs.Laws.Rules.{took, report-valid, report-list}
use Rattle.board.specs.Laws.Alone.{Alike}

set-alike : {A : Type 0} (z v : A) (l m : List A) (k i : ℕ) → length l ≡ length m → get_or l i z ≡ get_or m i z → get_or (set l k v) i z ≡ get_or (set m k v) i z
set-alike z v [] [] k i e h = h
set-alike z v [] (y ∷ m) k i e h = absurd (omega arith)
set-alike z v (x ∷ l) [] k i e h = absurd (omega arith)
set-alike z v (x ∷ l) (y ∷ m) zero zero e h = refl
set-alike z v (x ∷ l) (y ∷ m) zero (suc i) e h = h
set-alike z v (x ∷ l) (y ∷ m) (suc k) zero e h = h
set-alike z v (x ∷ l) (y ∷ m) (suc k) (suc i) e h = set-alike z v l m k i (omega arith) h

-- the last two tests: the owner, and only then what the place holds
abbrev last : Bool → Bool → ℕ
last own news = cond own (cond news 0 not_later) others_runway

module _ {d : ℕ} {b c : Board} (s : Alike d b c) (r : Row) where
  place-alike : place_for b r ≡ place_for c r
  place-alike = λ t. place_of r (take (s.count t) (s.runways t))

  owner-alike : owner_at b (place_for b r) ≡ owner_at c (place_for c r)
  owner-alike = λ t. get_or (s.owners t) (place-alike t) 0

  -- the answers are the same
  pub refusal-alike : refusal b d r ≡ refusal c d r
  unfolding refusal
  refusal-alike =
      λ t. cond (valids t) (cond (is_desk d) (cond (valid_row r) (cond (ltb (place-alike t) (s.count t)) (own t) not_on_board) invalid_row) no_desk) wrong_board
    where
      valids : valid_board b ≡ valid_board c
      valids = s.left ∙ sym s.right

      go : (o : Bool) → eqb d (owner_at b (place_for b r)) ≡ o → last o (is_news r (row_at b (place_for b r))) ≡ last o (is_news r (row_at c (place_for c r)))
      go true e =
          let h = s.rows (place_for b r) (sym (eqb-true d (owner_at b (place_for b r)) e)) ∙ ap (row_at c) place-alike in
          ap (λ p. last true (is_news r p)) h
      go false e = refl

      own : last (eqb d (owner_at b (place_for b r))) (is_news r (row_at b (place_for b r)))
          ≡ last (eqb d (owner_at c (place_for c r))) (is_news r (row_at c (place_for c r)))
      own = go (eqb d (owner_at b (place_for b r))) refl ∙ ap (λ o. last (eqb d o) (is_news r (row_at c (place_for c r)))) owner-alike

  -- after a report of the desk they are alike
  pub step-own : Alike d (report b d r).board (report c d r).board
  step-own =
      let x = report-list b d r in
      let y = report-list c d r in
      record {
        left = report-valid b d r s.left;
        right = report-valid c d r s.right;
        count = x.count ∙ (s.count ∙ sym y.count);
        runways = x.runways ∙ (s.runways ∙ sym y.runways);
        owners = x.owners ∙ (s.owners ∙ sym y.owners);
        rows = λ i e. ap (λ z. row_at z i) (report-board b d r) ∙ (go i (ap (λ os. get_or os i 0) (sym x.owners) ∙ e) (takes b d r)
            ∙ (ap (λ n. row_at (cond (eqb n 0) (stored c (place_for c r) r) c) i) refusal-alike ∙ ap (λ z. row_at z i) (sym (report-board c d r))));
      }
    where
      go : (i : ℕ) → owner_at b i ≡ d → (t : Bool) → row_at (cond t (stored b (place_for b r) r) b) i ≡ row_at (cond t (stored c (place_for c r) r) c) i
      go i e true =
          set-alike blank_row r b.rows c.rows (place_for b r) i ((rules b s.left).high ∙ sym (rules c s.right).high) (s.rows i e)
          ∙ ap (λ k. get_or (set c.rows k r) i blank_row) place-alike
      go i e false = s.rows i e

  -- and after one of another
  pub step_other : (e : ℕ) → eqb e d ≡ false → Alike d (report b e r).board c
  step_other e f =
      let x = report-list b e r in
      record {
        left = report-valid b e r s.left;
        right = s.right;
        count = x.count ∙ s.count;
        runways = x.runways ∙ s.runways;
        owners = x.owners ∙ s.owners;
        rows = λ i o. ap (λ z. row_at z i) (report-board b e r) ∙ go i (ap (λ os. get_or os i 0) (sym x.owners) ∙ o) (takes b e r) refl;
      }
    where
      go : (i : ℕ) → owner_at b i ≡ d → (t : Bool) → takes b e r ≡ t → row_at (cond t (stored b (place_for b r) r) b) i ≡ row_at c i
      go i o true h =
          let p = took b e r h in
          get_or-set_other b.rows (place_for b r) i r blank_row (λ z. true-false (sym (eq-eqb e d (p.owner ∙ (ap (owner_at b) (sym z) ∙ o))) ∙ f)) ∙ s.rows i o
      go i o false h = s.rows i o

module _ (d : ℕ) where
  pub answers-alone : (xs : List Sent) (b c : Board) → Alike d b c → answers_to d b xs ≡ answers_to d c (from d xs)
  unfolding answers_to from report
  answers-alone [] b c s = refl
  answers-alone (x ∷ xs) b c s = go (eqb x.desk d) refl (answers-alone xs)
    where
      go : (t : Bool) → eqb x.desk d ≡ t → ((p q : Board) → Alike d p q → answers_to d p xs ≡ answers_to d q (from d xs))
          → cond t ((report b x.desk x.row).refusal ∷ answers_to d (report b x.desk x.row).board xs)
          (answers_to d (report b x.desk x.row).board xs)
          ≡ answers_to d c (cond t (x ∷ from d xs) (from d xs))
      go true e ih =
          rw (eqb-true x.desk d e, eq-eqb d d refl)
          (λ t. refusal-alike s x.row t ∷ ih (report b d x.row).board (report c d x.row).board (step-own s x.row) t)
      go false e ih = ih (report b x.desk x.row).board c (step_other s x.row x.desk e)

  pub rows-alone : (xs : List Sent) (b c : Board) → Alike d b c → Alike d (reports b xs) (reports c (from d xs))
  unfolding reports from
  rows-alone [] b c s = s
  rows-alone (x ∷ xs) b c s = go (eqb x.desk d) refl (rows-alone xs)
    where
      go : (t : Bool) → eqb x.desk d ≡ t → ((p q : Board) → Alike d p q → Alike d (reports p xs) (reports q (from d xs)))
          → Alike d (reports (report b x.desk x.row).board xs) (reports c (cond t (x ∷ from d xs) (from d xs)))
      go true e ih = rw (eqb-true x.desk d e) (ih (report b d x.row).board (report c d x.row).board (step-own s x.row))
      go false e ih = ih (report b x.desk x.row).board c (step_other s x.row x.desk e)
