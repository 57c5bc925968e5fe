-- Demand 3: in whatever order the inspection cars call in, the board shows for each runway the report observed last; and no desk sees what the other does.
use Rattle.std.specs.Prelude.{ℕ, ◌<◌, ◌≡◌, true, false, eqb, get_or}
use Rattle.std.proofs.Math.Path.{refl}
use Rattle.std.proofs.Common.{sym, subst, ◌∙◌, ap, arith}
use mathlib.Core.List.Permᴰ
use mathlib.Core.List.{List, [], map, Permᴰ}
use Rattle.text.specs.Choice.{all}
use Rattle.text.specs.Arrays.{is_zero}
use Rattle.row.specs.declared.Row.{Row}
use Rattle.board.specs.declared.Runway.{Runway}
use Rattle.board.specs.declared.Board.{Board}
use Rattle.board.specs.Board.{blank_runway, is_desk, reported, latest_shown, runways_of, valid_board, answer, opening}
use Rattle.board.specs.Report.{row_at, report}
use Rattle.board.specs.declared.Sent.{Sent}
use Rattle.board.specs.Runs.{by_owner, reports, from, answers_to}
use Rattle.board.specs.Shows.{shown_at, Shows, Apart, IsLatest}
use Rattle.board.specs.Laws.Shows.{shows-one, shows-moved, permuted}
use Rattle.board.specs.Laws.Rules.{rules, goods, SameList, same-trans, same-sym}
use Rattle.board.proofs.Laws.Rules.{reports-valid, reports-list}
use Rattle.board.specs.Laws.Latest.{latest-is}
use Rattle.board.proofs.Laws.Step.{again-20, again-22}
use Rattle.board.specs.Laws.Alone.{alike_self}
use Rattle.board.proofs.Laws.Alone.{answers-alone, rows-alone}
use Rattle.board.specs.Laws.Restore.{opens-anew}
use Rattle.board.proofs.Laws.Restore.{restored}
use Rattle.board.proofs.Laws.Taken.{all-taken}
use Rattle.board.specs.Laws.Demand.{nothing-at, same-board, opened-fresh}
use Rattle.board.proofs.Laws.Demand.{shows-after}
use Rattle.board.specs.Theorems.{opens, afresh}

-- the board b was opened with the aerodrome a, the n runways of ws and their owners os
module _ (a : List ℕ) (n : ℕ) (ws : List Runway) (os : List ℕ) (b : Board) (taken : opening a n ws os ≡ answer 0 b) where
  begins : valid_board b ≡ true
  begins = (opened-fresh a n ws os b taken).1

  -- after any list of reports, valid or not, of whatever sender, the board's rules hold
  pub rules-hold : (xs : List Sent) → valid_board (reports b xs) ≡ true
  rules-hold xs = reports-valid b xs begins

  -- the aerodrome, the list and the owners never change
  pub list-stays : (xs : List Sent) → ((reports b xs).aerodrome ≡ a) × ((reports b xs).count ≡ n) × ((reports b xs).runways ≡ ws) × ((reports b xs).owners ≡ os)
  list-stays xs =
      let s = reports-list b xs in
      let o = (opened-fresh a n ws os b taken).0 in
      (s.aerodrome ∙ ap (λ x. x.aerodrome) o, s.count ∙ ap (λ x. x.count) o, s.runways ∙ ap (λ x. x.runways) o, s.owners ∙ ap (λ x. x.owners) o)

  -- the stored time is the latest of the rows shown, "true after opening and after each report, taken or refused"
  pub time-right : (xs : List Sent) → (reports b xs).latest ≡ latest_shown (reports b xs).rows
  time-right xs = (rules (reports b xs) (rules-hold xs)).latest

  -- in other words: 0 where none is shown, else the time of a row shown, and no row shown is later
  pub time-latest : (xs : List Sent) → IsLatest (reports b xs).rows (reports b xs).latest
  time-latest xs =
      let c = reports b xs in
      subst (IsLatest c.rows) (sym (time-right xs)) (latest-is c.rows (goods (runways_of c) c.rows (rules c (rules-hold xs)).fit))

  -- it is told by the rows shown, so that what is shown in any order of the reports tells it too
  pub time-order-free : (xs ys : List Sent) → (reports b xs).rows ≡ (reports b ys).rows → (reports b xs).latest ≡ (reports b ys).latest
  time-order-free xs ys e = time-right xs ∙ (ap latest_shown e ∙ sym (time-right ys))

  -- "Two runs in which only the other desk's reports differ must give a desk the same answers to its reports and the same rows for its runways": the desk d is
  -- any number, and nothing is assumed of the reports that are not its own. What is made of both desks' rows may still depend on both: the stored time,
  -- the notice's heading time and length, 14 and 21.
  pub isolation : (d : ℕ) (xs ys : List Sent) → from d xs ≡ from d ys
      → (answers_to d b xs ≡ answers_to d b ys) × ((i : ℕ) → get_or os i 0 ≡ d → row_at (reports b xs) i ≡ row_at (reports b ys) i)
  isolation d xs ys same =
      (answers xs ∙ (ap (answers_to d b) same ∙ sym (answers ys)), λ i e. rows xs i e ∙ (ap (λ zs. row_at (reports b zs) i) same ∙ sym (rows ys i e)))
    where
      answers : (zs : List Sent) → answers_to d b zs ≡ answers_to d b (from d zs)
      answers zs = answers-alone d zs b b (alike_self d b begins)

      rows : (zs : List Sent) (i : ℕ) → get_or os i 0 ≡ d → row_at (reports b zs) i ≡ row_at (reports b (from d zs)) i
      rows zs i e = (rows-alone d zs b b (alike_self d b begins)).rows i (ap (λ x. get_or x i 0) (list-stays zs).3 ∙ e)

  -- each runway shows of the valid reports for it the one observed last, among equal times the first to arrive, and nothing where there is none
  pub runway-shows : (xs : List Sent) (i : ℕ) → i < n → Shows (get_or ws i blank_runway) (get_or os i 0) xs (shown_at (reports b xs) i)
  runway-shows xs i l =
      let w = get_or ws i blank_runway in
      let o = get_or os i 0 in
      let f = (opened-fresh a n ws os b taken).0 in
      let c = ap (λ x. x.count) f in
      shows-after b w o [] xs i begins (omega arith) (ap (λ x. get_or x.runways i blank_runway) f) (ap (λ x. get_or x.owners i 0) f)
      (subst (λ x. Shows w o [] (shown_at x i)) (sym f) (nothing-at w o i))

  -- and no other board of that list and those owners does
  pub no_other : (xs : List Sent) (c : Board) → valid_board c ≡ true → SameList b c
      → ((i : ℕ) → i < n → Shows (get_or ws i blank_runway) (get_or os i 0) xs (shown_at c i)) → c ≡ reports b xs
  no_other xs c v s h =
      let k = (list-stays xs).1 in
      same-board c (reports b xs) v (rules-hold xs) (same-trans (same-sym (reports-list b xs)) s)
      (λ i l. shows-one (get_or ws i blank_runway) (get_or os i 0) (h i (omega arith)) (runway-shows xs i (omega arith)))

  -- reports of which no two different valid ones for a runway of the list bear the same time, in another order
  module _ (xs ys : List Sent) (moved : Permᴰ xs ys) (apart : (i : ℕ) → i < n → Apart (get_or ws i blank_runway) (get_or os i 0) xs) where
    -- leave the same board, the stored time included
    pub order-free : reports b xs ≡ reports b ys
    order-free =
        let k = (list-stays ys).1 in
        same-board (reports b xs) (reports b ys) (rules-hold xs) (rules-hold ys) (same-trans (same-sym (reports-list b ys)) (reports-list b xs))
        (λ i l. shows-moved (get_or ws i blank_runway) (get_or os i 0) (permuted moved) (permuted (Permᴰ.symm moved)) (apart i (omega arith))
        (runway-shows xs i (omega arith)) (runway-shows ys i (omega arith)))

module _ (b : Board) (v : valid_board b ≡ true) (rs : List Row) (moved : Permᴰ rs (reported b.rows)) where
  abbrev f : Board
  f = afresh b

  opens-fresh : opening b.aerodrome b.count b.runways b.owners ≡ answer 0 f
  opens-fresh = opens b.aerodrome b.count b.runways b.owners (opens-anew b v)

  stays-valid : (xs : List Sent) → valid_board (reports f xs) ≡ true
  stays-valid xs = rules-hold b.aerodrome b.count b.runways b.owners f opens-fresh xs

  its-list : (xs : List Sent) → SameList b (reports f xs)
  its-list xs = let s = reports-list f xs in record { aerodrome = s.aerodrome; count = s.count; runways = s.runways; owners = s.owners }

  its-shows : (xs : List Sent) (i : ℕ) → i < b.count → Shows (get_or b.runways i blank_runway) (get_or b.owners i 0) xs (shown_at (reports f xs) i)
  its-shows xs i l = runway-shows b.aerodrome b.count b.runways b.owners f opens-fresh xs i l

  pub restores : reports (afresh b) (map (by_owner (afresh b)) rs) ≡ b
  restores = let xs = map (by_owner b) rs in same-board (reports f xs) b (stays-valid xs) v (its-list xs) (λ i l. restored b v rs moved i l (its-shows xs i l))

  -- and none of these reports is refused: every desk is answered 0
  pub restores-taken : (d : ℕ) → all is_zero (answers_to d (afresh b) (map (by_owner (afresh b)) rs)) ≡ true
  unfolding reports
  restores-taken d = all-taken b v f rs moved stays-valid its-list its-shows d [] rs refl

-- a report that was taken is refused when it comes again: by 20 from its desk, by 22 from the other
pub twice : (b c : Board) (d : ℕ) (r : Row) → report b d r ≡ answer 0 c → report c d r ≡ answer 20 c
twice = again-20

pub twice-other : (b c : Board) (d : ℕ) (r : Row) → report b d r ≡ answer 0 c → (f : ℕ) → is_desk f ≡ true → eqb f d ≡ false → report c f r ≡ answer 22 c
twice-other = again-22
