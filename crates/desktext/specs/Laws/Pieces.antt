-- An input in pieces: what is printed for its pieces and its end is what is printed for its lines.
use Rattle.std.specs.Prelude.{ℕ, suc, ◌+◌, ◌<◌, ◌≤◌, ◌≡◌, cond, Bool, not, ◌&&◌, eqb, leb, ltb, length, take}
use Rattle.std.proofs.Math.Path.{refl, ap}
use Rattle.std.proofs.Common.{sym, ◌∙◌, add-one, arith, length-append, length-set, take_all, take-suc-set, length-take-le}
use mathlib.Core.List.{List, [], ◌∷◌, ◌++◌, append_assoc, append-nil, flatten}
use Rattle.std.proofs.Math.Bool.{true, false}
use Rattle.std.proofs.Math.ListN.{set}
use Rattle.std.proofs.lemmas.List.{length-replicate, take-append-le}
use borrow.Author.Tests.{eqb-true, leb-true, leb-false, lt-ltb, le-ltb, ne_eqb}
use Rattle.text.specs.Choice.{all}
use Rattle.text.specs.Piece.{bytes}
use Rattle.text.specs.Lines.{longest, push, lines}
use Rattle.text.specs.Code.Held.{is_unfed}
use Rattle.text.specs.Laws.Base.{and-1, and-2, and_i, true-false}
use Rattle.text.specs.Laws.Lines.{all_append}
use Rattle.board.specs.declared.Board.{Board}
use Rattle.board.specs.Board.{blank_board}
use Rattle.desktext.specs.declared.Standing.{Standing}
use Rattle.desktext.specs.declared.Standing.TheVariants.{Waiting, Keeping, Over}
use Rattle.desktext.specs.declared.State.{State}
use Rattle.desktext.specs.Line.{opening_line, report_line}
use Rattle.desktext.specs.Desk.{printed, answers_text, refused_text, lines_text, desk_text, report_lines, lines_board, desk_board}
use Rattle.desktext.specs.Pieces.{after_line, line_answer, end_answer, board_of, most_kept, start_state}
use Rattle.desktext.specs.Pieces.{begun, kept_byte, without_return, after_byte, byte_answer, fed_state, fed_text, last_standing, last_text, finish_text}
use Rattle.desktext.specs.Pieces.{pieces_text}
use Rattle.desktext.specs.Laws.Line.{opening-long, refused-blank, long-report}

-- ---- Lines

-- what a desk prints for the lines that are left
abbrev from : Standing → List (List ℕ) → List ℕ
from Waiting ls = lines_text ls
from (Keeping b) ls = answers_text b ls
from Over ls = []

from-none : (d : Standing) → end_answer d ≡ from d []
unfolding end_answer answers_text
from-none Waiting = refl
from-none (Keeping b) = refl
from-none Over = refl

from-line : (d : Standing) (l : List ℕ) (ls : List (List ℕ)) → line_answer d l ++ from (after_line d l) ls ≡ from d (l ∷ ls)
unfolding line_answer after_line answers_text
from-line Waiting l ls = go (eqb (opening_line l).refusal 0) (opening_line l).board
  where
    go : (t : Bool) (b : Board) → cond t (printed (bytes "OPEN")) refused_text ++ from (cond t (Keeping b) Over) ls
        ≡ cond t (printed (bytes "OPEN") ++ answers_text b ls) refused_text
    go true b = refl
    go false b = refl
from-line (Keeping b) l ls = refl
from-line Over l ls = refl

-- bytes without an LF, and then one: a line
lines-fed : (r m : List ℕ) → all is_unfed r ≡ true → lines (r ++ (10 ∷ m)) ≡ without_return r ∷ lines m
unfolding lines without_return
lines-fed [] m h = refl
lines-fed (x ∷ []) m h = go (eqb x 10) (eqb x 13) (and-1 _ _ h)
  where
    go : (a b : Bool) → not a ≡ true → cond a ([] ∷ [] ∷ lines m) (cond (b && true) ([] ∷ lines m) (push x ([] ∷ lines m))) ≡ cond b [] (x ∷ []) ∷ lines m
    go true b u = true-false (sym u)
    go false true u = refl
    go false false u = refl
lines-fed (x ∷ y ∷ r) m h =
    let k = and-2 (is_unfed x) _ h in
    go (eqb x 10) (eqb x 13) (eqb y 10) (and-1 _ _ h) (and-1 _ _ k) (lines-fed (y ∷ r) m k)
  where
    go : (a b c : Bool) → not a ≡ true → not c ≡ true → lines (y ∷ (r ++ (10 ∷ m))) ≡ without_return (y ∷ r) ∷ lines m
        → cond a ([] ∷ lines (y ∷ (r ++ (10 ∷ m)))) (cond (b && c) (lines (y ∷ (r ++ (10 ∷ m)))) (push x (lines (y ∷ (r ++ (10 ∷ m))))))
        ≡ (x ∷ without_return (y ∷ r)) ∷ lines m
    go true b c u v e = true-false (sym u)
    go false b true u v e = true-false (sym v)
    go false true false u v e = rw e
    go false false false u v e = rw e

-- bytes without an LF, and then the end: a last line, if there are any
lines-unfed : (x : ℕ) (r : List ℕ) → all is_unfed (x ∷ r) ≡ true → lines (x ∷ r) ≡ (x ∷ r) ∷ []
unfolding lines
lines-unfed x [] h = go (eqb x 10) (eqb x 13) (and-1 _ _ h)
  where
    go : (a b : Bool) → not a ≡ true → cond a ([] ∷ []) (cond (b && false) [] ((x ∷ []) ∷ [])) ≡ (x ∷ []) ∷ []
    go true b u = true-false (sym u)
    go false true u = refl
    go false false u = refl
lines-unfed x (y ∷ r) h =
    let k = and-2 (is_unfed x) _ h in
    go (eqb x 10) (eqb x 13) (eqb y 10) (and-1 _ _ h) (and-1 _ _ k) (lines-unfed y r k)
  where
    go : (a b c : Bool) → not a ≡ true → not c ≡ true → lines (y ∷ r) ≡ (y ∷ r) ∷ []
        → cond a ([] ∷ lines (y ∷ r)) (cond (b && c) (lines (y ∷ r)) (push x (lines (y ∷ r)))) ≡ (x ∷ y ∷ r) ∷ []
    go true b c u v e = true-false (sym u)
    go false b true u v e = true-false (sym v)
    go false true false u v e = rw e
    go false false false u v e = rw e

-- ---- Over-long lines

-- two lines that no desk tells apart
record Alike (l k : List ℕ) : Type 0 where
  after : (d : Standing) → after_line d l ≡ after_line d k
  says : (d : Standing) → line_answer d l ≡ line_answer d k

-- over-long lines are alike, whatever their bytes are
long-alike : (l k : List ℕ) → longest < length l → longest < length k → Alike l k
unfolding after_line line_answer
long-alike l k h g = record { after = after; says = says }
  where
    opened : opening_line l ≡ opening_line k
    opened = opening-long l (omega arith) ∙ sym (opening-long k (omega arith))

    reported : (b : Board) → report_line b l ≡ report_line b k
    reported b = long-report b l h ∙ sym (long-report b k g)

    after : (d : Standing) → after_line d l ≡ after_line d k
    after Waiting = rw opened
    after (Keeping b) = rw (reported b)
    after Over = refl

    says : (d : Standing) → line_answer d l ≡ line_answer d k
    says Waiting = rw opened
    says (Keeping b) = rw (reported b)
    says Over = refl

return-size : (l : List ℕ) → length l ≤ suc (length (without_return l))
unfolding without_return
return-size [] = omega arith
return-size (x ∷ []) = omega arith
return-size (x ∷ y ∷ l) = let h = return-size (y ∷ l) in omega arith

-- what is kept of a line tells as much as the line
kept-alike : (r : List ℕ) → Alike (take most_kept r) r × Alike (without_return (take most_kept r)) (without_return r)
kept-alike r = go (leb (length r) most_kept) refl
  where
    go : (t : Bool) → leb (length r) most_kept ≡ t → Alike (take most_kept r) r × Alike (without_return (take most_kept r)) (without_return r)
    go true e =
        let z : take most_kept r ≡ r = take_all most_kept r (leb-true (length r) most_kept e) in
        rw z (record { after = λ d. refl; says = λ d. refl }, record { after = λ d. refl; says = λ d. refl })
    go false e =
        let h = leb-false (length r) most_kept e in
        let z = length-take-le most_kept r (omega arith) in (
          long-alike (take most_kept r) r (omega arith) (omega arith),
          long-alike (without_return (take most_kept r)) (without_return r) (omega (arith, return-size (take most_kept r))) (omega (arith, return-size r)),
        )

-- ---- Bytes

-- the state keeps the bytes r of a line that has not ended
record Keeps (s : State) (r : List ℕ) : Type 0 where
  room : length s.held ≡ most_kept
  many : s.count ≡ length (take most_kept r)
  holds : begun s ≡ take most_kept r
  unfed : all is_unfed r ≡ true

kept-none : (s : State) → length s.held ≡ most_kept → s.count ≡ 0 → Keeps s []
kept-none s h e = record { room = h; many = e; holds = rw e; unfed = refl }

kept_more : (s : State) (r : List ℕ) (x : ℕ) → Keeps s r → eqb x 10 ≡ false → Keeps (kept_byte s x) (r ++ (x ∷ []))
kept_more s r x k e = go (leb most_kept (length r)) refl
  where
    clean : all is_unfed (r ++ (x ∷ [])) ≡ true
    clean = all_append is_unfed r (x ∷ []) k.unfed (and_i (rw e) refl)

    go : (t : Bool) → leb most_kept (length r) ≡ t → Keeps (kept_byte s x) (r ++ (x ∷ []))
    go true q =
        let h = leb-true most_kept (length r) q in
        let c : s.count ≡ most_kept = k.many ∙ length-take-le most_kept r h in
        let z : take most_kept (r ++ (x ∷ [])) ≡ take most_kept r = take-append-le most_kept r (x ∷ []) h in
        rw (le-ltb s.count most_kept (omega arith))
        (record { room = k.room; many = k.many ∙ ap length (sym z); holds = k.holds ∙ sym z; unfed = clean })
    go false q =
        let h = leb-false most_kept (length r) q in
        let y : take most_kept r ≡ r = take_all most_kept r (omega arith) in
        let c : s.count ≡ length r = k.many ∙ ap length y in
        let n = length-append r (x ∷ []) in
        let z : take most_kept (r ++ (x ∷ [])) ≡ r ++ (x ∷ []) = take_all most_kept (r ++ (x ∷ [])) (omega arith) in
        rw (lt-ltb s.count most_kept (omega arith))
        (record {
          room = simp length-set k.room;
          many = omega (arith, ap length z);
          holds = rw add-one (take-suc-set s.held s.count x (omega (arith, k.room))) ∙ ap (λ l. l ++ (x ∷ [])) (k.holds ∙ y) ∙ sym z;
          unfed = clean;
        })

-- all that is printed for bytes, and then the end
unfoldable run : State → List ℕ → List ℕ
run s [] = finish_text s
run s (x ∷ m) = byte_answer s x ++ run (after_byte s x) m

run_end : (s : State) (r : List ℕ) → Keeps s r → finish_text s ≡ from s.standing (lines r)
unfolding finish_text last_text last_standing lines
run_end s [] k = rw k.many (from-none s.standing)
run_end s (x ∷ r) k =
    let z : s.count ≡ suc (length (take 4097 r)) = k.many in
    let a = (kept-alike (x ∷ r)).0 in
    rw (ne_eqb s.count 0 (λ q. absurd (omega arith)), k.holds, a.says s.standing, a.after s.standing, from-none (after_line s.standing (x ∷ r)))
    (from-line s.standing (x ∷ r) [] ∙ ap (from s.standing) (sym (lines-unfed x r k.unfed)))

-- one byte more, where the rest of the input is known to go well
module _ (s : State) (r : List ℕ) (k : Keeps s r) (x : ℕ) (m : List ℕ)
    (ih : (t : State) (q : List ℕ) → Keeps t q → run t m ≡ from t.standing (lines (q ++ m))) where
  run-fed-byte : eqb x 10 ≡ true → byte_answer s x ++ run (after_byte s x) m ≡ from s.standing (lines (r ++ (x ∷ m)))
  unfolding after_byte byte_answer
  run-fed-byte e =
      let t : State = record { standing = after_line s.standing (without_return (begun s)); held = s.held; count = 0 } in
      let a = (kept-alike r).1 in
      rw (e, ih t [] (kept-none t k.room refl), k.holds, a.says s.standing, a.after s.standing, eqb-true x 10 e)
      (from-line s.standing (without_return r) (lines m) ∙ ap (from s.standing) (sym (lines-fed r m k.unfed)))

  run-kept-byte : eqb x 10 ≡ false → byte_answer s x ++ run (after_byte s x) m ≡ from s.standing (lines (r ++ (x ∷ m)))
  unfolding after_byte byte_answer
  run-kept-byte e =
      rw (e, ih (kept_byte s x) (r ++ (x ∷ [])) (kept_more s r x k e), append_assoc) (same (ltb s.count most_kept))
    where
      same : (t : Bool) → from (cond t (record { standing = s.standing; held = set s.held s.count x; count = s.count + 1 }) s).standing
          (lines (r ++ (x ∷ m))) ≡ from s.standing (lines (r ++ (x ∷ m)))
      same true = refl
      same false = refl

  run-byte : (t : Bool) → eqb x 10 ≡ t → byte_answer s x ++ run (after_byte s x) m ≡ from s.standing (lines (r ++ (x ∷ m)))
  run-byte true e = run-fed-byte e
  run-byte false e = run-kept-byte e

run-lines : (m : List ℕ) (s : State) (r : List ℕ) → Keeps s r → run s m ≡ from s.standing (lines (r ++ m))
unfolding run
run-lines [] s r k = run_end s r k ∙ ap (λ l. from s.standing (lines l)) (sym (append-nil r))
run-lines (x ∷ m) s r k = run-byte s r k x m (run-lines m) (eqb x 10) refl

run-fed : (s : State) (m k : List ℕ) → run s (m ++ k) ≡ fed_text s m ++ run (fed_state s m) k
unfolding run fed_text fed_state
run-fed s [] k = refl
run-fed s (x ∷ m) k = ap (λ l. byte_answer s x ++ l) (run-fed (after_byte s x) m k) ∙ sym (append_assoc (byte_answer s x) (fed_text (after_byte s x) m) _)

pieces-run : (s : State) (ps : List (List ℕ)) → pieces_text s ps ≡ run s (flatten ps)
unfolding pieces_text run flatten
pieces-run s [] = refl
pieces-run s (p ∷ ps) = ap (λ l. fed_text s p ++ l) (pieces-run (fed_state s p) ps) ∙ sym (run-fed s p (flatten ps))

-- feeding any pieces and then the end prints what the desk prints for all of them as one input
pub pieces_whole : (ps : List (List ℕ)) → pieces_text start_state ps ≡ desk_text (flatten ps)
unfolding desk_text
pieces_whole ps = pieces-run start_state ps ∙ run-lines (flatten ps) start_state [] (kept-none start_state (length-replicate {A = ℕ} most_kept 0) refl)

-- ---- The board

-- where the desk stands after lines
unfoldable after_lines : Standing → List (List ℕ) → Standing
after_lines d [] = d
after_lines d (l ∷ ls) = after_lines (after_line d l) ls

stands-end : (s : State) (r : List ℕ) → Keeps s r → last_standing s ≡ after_lines s.standing (lines r)
unfolding last_standing after_lines lines
stands-end s [] k = rw k.many
stands-end s (x ∷ r) k =
    let z : s.count ≡ suc (length (take 4097 r)) = k.many in
    rw (ne_eqb s.count 0 (λ q. absurd (omega arith)), k.holds, (kept-alike (x ∷ r)).0.after s.standing, lines-unfed x r k.unfed)

stands-lines : (m : List ℕ) (s : State) (r : List ℕ) → Keeps s r → last_standing (fed_state s m) ≡ after_lines s.standing (lines (r ++ m))
unfolding fed_state after_byte after_lines
stands-lines [] s r k = rw (stands-end s r k, append-nil r)
stands-lines (x ∷ m) s r k = go (eqb x 10) refl (stands-lines m)
  where
    fed : State
    fed = record { standing = after_line s.standing (without_return (begun s)); held = s.held; count = 0 }

    same : (t : Bool) → (cond t (record { standing = s.standing; held = set s.held s.count x; count = s.count + 1 }) s).standing ≡ s.standing
    same true = refl
    same false = refl

    go : (t : Bool) → eqb x 10 ≡ t
        → ((u : State) (q : List ℕ) → Keeps u q → last_standing (fed_state u m) ≡ after_lines u.standing (lines (q ++ m)))
        → last_standing (fed_state (cond t fed (kept_byte s x)) m) ≡ after_lines s.standing (lines (r ++ (x ∷ m)))
    go true e ih =
        rw (ih fed [] (kept-none fed k.room refl), k.holds, (kept-alike r).1.after s.standing, eqb-true x 10 e, lines-fed r m k.unfed)
    go false e ih =
        rw (ih (kept_byte s x) (r ++ (x ∷ [])) (kept_more s r x k e), append_assoc, same (ltb s.count most_kept))

keeps-board : (b : Board) (ls : List (List ℕ)) → board_of (after_lines (Keeping b) ls) ≡ report_lines b ls
unfolding after_lines after_line report_lines
keeps-board b [] = refl
keeps-board b (l ∷ ls) = keeps-board (report_line b l).board ls

over-board : (ls : List (List ℕ)) → board_of (after_lines Over ls) ≡ blank_board
unfolding after_lines after_line
over-board [] = refl
over-board (l ∷ ls) = over-board ls

opens-board : (ls : List (List ℕ)) → board_of (after_lines Waiting ls) ≡ lines_board ls
unfolding after_lines after_line
opens-board [] = refl
opens-board (l ∷ ls) = go (eqb (opening_line l).refusal 0) refl
  where
    go : (t : Bool) → eqb (opening_line l).refusal 0 ≡ t
        → board_of (after_lines (cond t (Keeping (opening_line l).board) Over) ls) ≡ cond t (report_lines (opening_line l).board ls) (opening_line l).board
    go true e = keeps-board (opening_line l).board ls
    go false e = over-board ls ∙ sym (refused-blank l e)

-- the board after all bytes of an input is the board after its lines
pub whole-board : (m : List ℕ) → board_of (last_standing (fed_state start_state m)) ≡ desk_board m
unfolding desk_board
whole-board m = ap board_of (stands-lines m start_state [] (kept-none start_state (length-replicate {A = ℕ} most_kept 0) refl)) ∙ opens-board (lines m)
