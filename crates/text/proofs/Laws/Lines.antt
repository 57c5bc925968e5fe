-- A message is a typing of lines exactly if its lines are typings of them.
use Rattle.std.specs.Prelude.{ℕ, ◌≡◌, refl, List, [], ◌∷◌, ◌++◌, cond, Bool, true, false, not, ◌&&◌, eqb}
use Rattle.std.proofs.Common.{sym, subst, ◌∙◌, ap, append_assoc, append-nil}
use Rattle.text.specs.Choice.{◌and◌, all, head_is}
use Rattle.text.specs.Piece.{Piece, byte, end, last, spell, Spaces, none, more, One, byte1, gap1, loose1, end_lf, end_crlf, last_missing, last_lf}
use Rattle.text.specs.Piece.{last_crlf, nr_left_out, Typed, done, step, nr_written}
use Rattle.text.specs.Lines.{push, lines, ended}
use Rattle.text.specs.Laws.Typing.{cut as halves, one_more, typed-more}
use Rattle.text.specs.Laws.Base.{inner, inline, inline1, and-1, and-2, true-false}
use Rattle.text.specs.Laws.Lines.{Tells, final, next, all_append}

-- the part of the message that the pieces are typed as
record Part (P : List ℕ → Type 0) (m k : List ℕ) : Type 0 where
  line : List ℕ
  is : m ≡ line ++ k
  typed : P line
  clean : all inner line ≡ true

spaces-part : {m k : List ℕ} → Spaces m k → Part (λ l. Spaces l []) m k
unfolding ◌and◌
spaces-part none = record { line = []; is = refl; typed = none; clean = refl }
spaces-part (more s) = let x = spaces-part s in record { line = 32 ∷ x.line; is = ap (λ l. 32 ∷ l) x.is; typed = more x.typed; clean = x.clean }

one-part : {p : Piece} {m k : List ℕ} → inline1 p ≡ true → One p m k → Part (λ l. One p l []) m k
unfolding ◌and◌
one-part h (byte1 {b = b}) = record { line = b ∷ []; is = refl; typed = byte1; clean = rw h }
one-part h (gap1 s) = let x = spaces-part s in record { line = 32 ∷ x.line; is = ap (λ l. 32 ∷ l) x.is; typed = gap1 x.typed; clean = x.clean }
one-part h (loose1 s) = let x = spaces-part s in record { line = x.line; is = x.is; typed = loose1 x.typed; clean = x.clean }
one-part h end_lf = true-false (sym h)
one-part h end_crlf = true-false (sym h)
one-part h last_missing = true-false (sym h)
one-part h last_lf = true-false (sym h)
one-part h last_crlf = true-false (sym h)
one-part h nr_left_out = record { line = []; is = refl; typed = nr_left_out; clean = refl }

glue : (a b m k n : List ℕ) → m ≡ a ++ k → k ≡ b ++ n → m ≡ (a ++ b) ++ n
glue a b m k n p q = rw (p, q, append_assoc)

typed-part : {ps : List Piece} {m k : List ℕ} → inline ps ≡ true → Typed ps m k → Part (λ l. Typed ps l []) m k
unfolding inline ◌and◌ spell
typed-part h done = record { line = []; is = refl; typed = done; clean = refl }
typed-part h (step {p = p} {ps = ps} o t) =
    let x = one-part (and-1 (inline1 p) (inline ps) h) o in
    let y = typed-part (and-2 (inline1 p) (inline ps) h) t in
    record {
      line = x.line ++ y.line;
      is = glue x.line y.line _ _ _ x.is y.is;
      typed = step (one_more y.line x.typed) y.typed;
      clean = all_append inner x.line y.line x.clean y.clean;
    }
typed-part h (nr_written {ps = ps} n t) =
    let x = typed-part refl n in
    let y = typed-part h t in
    record {
      line = x.line ++ y.line;
      is = glue x.line y.line _ _ _ x.is y.is;
      typed = nr_written (typed-more y.line x.typed) y.typed;
      clean = all_append inner x.line y.line x.clean y.clean;
    }

-- a typed line holds only bytes that may stand within a line
pub typed-clean : {ps : List Piece} {l : List ℕ} → inline ps ≡ true → Typed ps l [] → all inner l ≡ true
typed-clean {ps} {l} h t = let x = typed-part h t in subst (λ k. all inner k ≡ true) (sym (x.is ∙ append-nil x.line)) x.clean

-- clean bytes before lines
lines-clean : (l k : List ℕ) {j : List ℕ} {js : List (List ℕ)} → all inner l ≡ true → lines k ≡ j ∷ js → lines (l ++ k) ≡ (l ++ j) ∷ js
unfolding lines
lines-clean [] k h e = e
lines-clean (x ∷ l) k {j} {js} h e = go (eqb x 10) (eqb x 13) (and-1 (inner x) (all inner l) h) (lines-clean l k (and-2 (inner x) (all inner l) h) e)
  where
    go : (a b : Bool) → cond a false (cond b false (not (eqb x 41))) ≡ true → lines (l ++ k) ≡ (l ++ j) ∷ js
        → cond a ([] ∷ lines (l ++ k)) (cond (b && head_is (λ c. eqb c 10) (l ++ k)) (lines (l ++ k)) (push x (lines (l ++ k)))) ≡ (x ∷ (l ++ j)) ∷ js
    go true b q f = true-false (sym q)
    go false true q f = true-false (sym q)
    go false false q f = rw f

lines-last : {m : List ℕ} → Typed (byte 41 ∷ last ∷ []) m [] → lines m ≡ (41 ∷ []) ∷ []
unfolding lines
lines-last (step byte1 (step last_missing done)) = refl
lines-last (step byte1 (step last_lf done)) = refl
lines-last (step byte1 (step last_crlf done)) = refl

record After (pss : List Piece) (m : List ℕ) : Type 0 where
  rest : List ℕ
  is : lines m ≡ [] ∷ lines rest
  typed : Typed pss rest []

lines_end : {ps : List Piece} {m : List ℕ} → Typed (end ∷ ps) m [] → After ps m
unfolding lines
lines_end (step (end_lf {r = r}) t) = record { rest = r; is = refl; typed = t }
lines_end (step (end_crlf {r = r}) t) = record { rest = r; is = refl; typed = t }

pub lines-complete : (ps : List Piece) (pss : List (List Piece)) {m : List ℕ} → all inline (ps ∷ pss) ≡ true → Typed (ended (ps ∷ pss)) m []
    → Tells (ps ∷ pss) (lines m)
unfolding ended
lines-complete ps [] {m} h t =
    let c = halves ps t in
    let x = typed-part (and-1 (inline ps) true h) c.left in
    let e = lines-clean x.line c.mid x.clean (lines-last c.right) in
    subst (Tells (ps ∷ [])) (sym (ap lines x.is ∙ e)) (final refl x.typed)
lines-complete ps (qs ∷ pss) {m} h t =
    let c = halves ps t in
    let x = typed-part (and-1 (inline ps) (all inline (qs ∷ pss)) h) c.left in
    let a = lines_end c.right in
    let e = lines-clean x.line c.mid x.clean a.is in
    let n = ap (λ k. k ∷ lines a.rest) (append-nil x.line) in
    subst (Tells (ps ∷ qs ∷ pss)) (sym (ap lines x.is ∙ (e ∙ n)))
    (next x.typed (lines-complete qs pss (and-2 (inline ps) (all inline (qs ∷ pss)) h) a.typed))
