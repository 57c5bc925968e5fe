-- Places, the first line by its LF, and the `)` at its end: what the functions' proofs need.
use Prim.Native.Nat.{ℕ, zero, suc, ◌+◌, ◌-◌, ◌<◌, ◌≤◌}
use mathlib.Core.Path.{◌≡◌, refl, sym, ◌∙◌}
use mathlib.Core.List.{List, [], ◌∷◌}
use mathlib.Core.Bool.{cond, Bool, true, false, not, and-false}
use mathlib.Core.Logic.{⊎_elim}
use native.Mathlib.Omega.{arith}
use native.Mathlib.Nat.{eq-zero-or-pos}
use lib.Dec.{eqb}
use lib.ListN.{length, drop, get_or, take, drop_of_length-le}
use lib.Seq.{drop-cons, drop-length}
use borrow.Author.Tests.{ne_eqb, not-true}
use Rattle.text.specs.Names.{past}
use Rattle.text.specs.Lines.{feeds, is_return, end_size, line_size, line_step, closed}
use Rattle.text.specs.Choice.{all}
use Rattle.text.specs.declared.Line.{Line}
use Rattle.text.specs.Code.Held.{Reached, first_line, is_unfed}
use Rattle.text.specs.Laws.Base.{and-1, and-2, true-false}
use Rattle.text.specs.Laws.Held.{reached-length}
use Rattle.text.specs.Laws.Runs.{run_in, run-taken}

pub past_end : (i : ℕ) (m : List ℕ) → length m ≤ i → drop (length m) m ≡ drop i m
past_end i m h = drop-length m ∙ sym (drop_of_length-le m h)

-- an LF ends a line, and of the other bytes only a CR with an LF after it
end-feed : (m : List ℕ) → feeds m ≡ true → end_size m ≡ 1
unfolding end_size
end-feed [] f = true-false (sym f)
end-feed (x ∷ m) f = rw f

end-unfed : (x : ℕ) (m : List ℕ) → is_unfed x ≡ true → end_size (x ∷ m) ≡ cond (is_return x m) 2 0
unfolding end_size
end-unfed x m u = rw (not-true (eqb x 10) u)

-- no line ends in the first n bytes of m
record Passes (n : ℕ) (m : List ℕ) : Type 0 where
  size : line_size m ≡ n + line_size (drop n m)
  step : line_step m ≡ n + line_step (drop n m)

passes_none : (m : List ℕ) → Passes 0 m
passes_none m = record { size = omega arith; step = omega arith }

-- nor in one byte more, before them or behind
passes-before : {x n : ℕ} {m : List ℕ} → end_size (x ∷ m) ≡ 0 → Passes n m → Passes (suc n) (x ∷ m)
unfolding line_size line_step
passes-before e p = record { size = rw e (omega (arith, p.size)); step = rw e (omega (arith, p.step)) }

passes-behind : {n : ℕ} {m : List ℕ} → Passes n m → n < length m → end_size (drop n m) ≡ 0 → Passes (suc n) m
unfolding line_size line_step
passes-behind {n} {m} p h e =
    let d = drop-cons m n 0 h in
    let f = rw d at e in
    record { size = rw (p.size, d, f) (omega arith); step = rw (p.step, d, f) (omega arith) }

-- of bytes that are no LF only the last may be where a line ends: at a CR with an LF after it
unfed-passes : (n : ℕ) (m : List ℕ) → n < length m → all is_unfed (take (suc n) m) ≡ true → Passes n m × (end_size (drop n m) ≡ cond (is_return (get_or m n 0) (drop (suc n) m)) 2 0)
unfed-passes n [] h a = absurd (omega arith)
unfed-passes zero (x ∷ m) h a = (passes_none (x ∷ m), end-unfed x m (and-1 _ _ a))
unfed-passes (suc n) (x ∷ []) h a = absurd (omega arith)
unfed-passes (suc n) (x ∷ y ∷ m) h a =
    let b = and-2 _ _ a in
    let q = unfed-passes n (y ∷ m) (omega arith) b in
    (passes-before (end-unfed x (y ∷ m) (and-1 _ _ a) ∙ rw (not-true (eqb y 10) (and-1 _ _ b), and-false)) q.0, q.1)

-- what stands past such bytes, if anything, is an LF
past-feeds : (m : List ℕ) → 0 < length (past is_unfed m) → feeds (past is_unfed m) ≡ true
unfolding past
past-feeds [] h = absurd (omega arith)
past-feeds (x ∷ m) h = go (eqb x 10) refl (past-feeds m) h
  where
    go : (t : Bool) → eqb x 10 ≡ t → (0 < length (past is_unfed m) → feeds (past is_unfed m) ≡ true) → 0 < length (cond (not t) (past is_unfed m) (x ∷ m)) → feeds (cond (not t) (past is_unfed m) (x ∷ m)) ≡ true
    go true e f h = e
    go false e f h = f h

-- nothing is left of a line where it ends, nor at the end of the message
line-end : (m : List ℕ) {e : ℕ} → end_size m ≡ suc e → (line_size m ≡ 0) × (line_step m ≡ suc e)
unfolding end_size line_size line_step
line-end [] h = absurd (omega arith)
line-end (x ∷ m) {e} h = rw (h, ne_eqb (suc e) 0 (λ z. absurd (omega arith))) (refl, refl)

line-stop : (line_size [] ≡ 0) × (line_step [] ≡ 0)
unfolding line_size line_step
line-stop = (refl, refl)

-- bytes in which no line ends, and behind them the end of one, are the first line
line-is : {m : List ℕ} {i e n : ℕ} → Passes i m → (line_size (drop i m) ≡ 0) × (line_step (drop i m) ≡ e) → n ≡ i + e → ◌≡◌ {A = Line} (record { size = i; next = n }) (first_line m)
line-is {m} {i} {e} {n} p o q =
    let s : i ≡ line_size m = omega (arith, o, p.size) in
    let t : n ≡ line_step m = omega (arith, o, p.step) in
    λ k. record { size = s k; next = t k }

-- the first line of a message with r bytes before its first LF
module _ (m : List ℕ) (r : ℕ) (h : Reached m (past is_unfed m) r) where
  then-feeds : r < length m → feeds (drop r m) ≡ true
  then-feeds l = rw h.left (past-feeds m (omega (arith, reached-length h)))

  -- no line ends before the last of these bytes, nor there if it is not the CR of a CR LF
  to_last : 0 < r → Passes (r - 1) m × (end_size (drop (r - 1) m) ≡ cond (is_return (get_or m (r - 1) 0) (drop r m)) 2 0)
  to_last z =
      let w = h.within in
      let e : suc (r - 1) ≡ r = omega arith in
      rw e at (unfed-passes (r - 1) m (omega arith) (rw (e, run-taken is_unfed m h) (run_in is_unfed m)))

  to-feed : (0 < r → is_return (get_or m (r - 1) 0) (drop r m) ≡ false) → Passes r m
  to-feed n = ⊎_elim (λ e. rw e (passes_none m)) some (eq-zero-or-pos r)
    where
      some : 0 < r → Passes r m
      some z =
          let w = h.within in
          let e : suc (r - 1) ≡ r = omega arith in
          let q = to_last z in
          rw e at (passes-behind q.0 (omega arith) (q.1 ∙ rw (n z)))

  -- there is no LF
  pub line-unfed : length m ≤ r → ◌≡◌ {A = Line} (record { size = r; next = r }) (first_line m)
  line-unfed l = let d = drop_of_length-le m l in line-is {e = 0} (to-feed (λ _. rw (d, and-false))) (rw d line-stop) (omega arith)

  -- there is one, and no CR before it
  pub line-fed : r < length m → (0 < r → get_or m (r - 1) 0 ≡ 13 → ⊥) → ◌≡◌ {A = Line} (record { size = r; next = r + 1 }) (first_line m)
  line-fed l n = line-is (to-feed (λ z. rw (ne_eqb (get_or m (r - 1) 0) 13 (n z)))) (line-end (drop r m) (end-feed (drop r m) (then-feeds l))) (omega arith)

  -- there is one, and a CR before it
  pub line-returned : r < length m → 0 < r → get_or m (r - 1) 0 ≡ 13 → ◌≡◌ {A = Line} (record { size = r - 1; next = r + 1 }) (first_line m)
  line-returned l z e = let q = to_last z in line-is q.0 (line-end (drop (r - 1) m) {e = 1} (q.1 ∙ rw (e, then-feeds l))) (omega arith)

-- the last byte decides
pub closed-last : (l : List ℕ) → 0 < length l → closed l ≡ eqb (get_or l (length l - 1) 0) 41
unfolding closed
closed-last [] h = absurd (omega arith)
closed-last (x ∷ []) h = refl
closed-last (x ∷ y ∷ l) h =
    let z : suc (suc (length l)) - 1 ≡ suc (suc (length l) - 1) = omega arith in
    rw z (closed-last (y ∷ l) (omega arith))

pub closed_none : (l : List ℕ) → length l ≡ 0 → closed l ≡ false
unfolding closed
closed_none [] h = refl
closed_none (x ∷ l) h = absurd (omega arith)

pub ruleset closing = (closed-last, closed_none)
