-- Spaces counted eight at a time: the number of eight bytes less that of eight spaces ends in as many zero bytes as there are spaces in front.
use Rattle.std.proofs.Common.{◌≡◌, ℕ, zero, suc, ◌+◌, ◌-◌, ◌*◌, ◌/◌, ◌%◌, ◌<◌, ◌≤◌, Bool, true, false, cond, eqb, List, [], ◌∷◌, length, get_or, take, drop, sym, refl, ap, ◌∙◌, arith, length-drop, length-take, drop-cons, drop-drop, drop_of_length-le, ltb-true, lt-ltb, eqb-true}
use lib.Count.{count_trailing_zeros, under}
use borrow.Author.Tests.{eqb-false}
use Rattle.text.specs.Choice.{all}
use Rattle.text.specs.Names.{run, past, is_space}
use Rattle.text.specs.Code.Held.{Reached, low_first, is_byte}
use Rattle.text.specs.Laws.Base.{and-1, and-2, and_i}
use Rattle.text.specs.Laws.Runs.{run-all}
use Rattle.text.specs.Laws.Held.{part-all}
use Rattle.std.specs.Array.{IsFirstChunk}
use Rattle.text.specs.Laws.Passed.{block_in, past-block}

-- j digits more
abbrev plus : ℕ → ℕ → ℕ
plus zero m = m
plus (suc j) m = suc (plus j m)

-- without the j lowest binary digits
abbrev halves : ℕ → ℕ → ℕ
halves zero d = d
halves (suc j) d = halves j (d / 2)

-- they are zero
abbrev Low : ℕ → ℕ → Type 0
Low zero d = Unit
Low (suc j) d = (d % 2 ≡ 0) × Low j (d / 2)

high : (j m d : ℕ) → Low j d → count_trailing_zeros (plus j m) d ≡ plus j (count_trailing_zeros m (halves j d))
unfolding count_trailing_zeros
high zero m d l = refl
high (suc j) m d l = rw l.0 (ap suc (high j m (d / 2) l.1))

low : (j m d : ℕ) → (Low j d → ⊥) → count_trailing_zeros (plus j m) d < j
unfolding count_trailing_zeros
low zero m d n = absurd (n tt)
low (suc j) m d n = go (d % 2) refl (λ e. low j m (d / 2) (λ l. n (e, l)))
  where
    go : (r : ℕ) → d % 2 ≡ r → (d % 2 ≡ 0 → count_trailing_zeros (plus j m) (d / 2) < j) → under r (count_trailing_zeros (plus j m) (d / 2)) < suc j
    go zero e h = let k = h e in omega arith
    go (suc r) e h = omega arith

-- the lowest byte is zero, or not
module _ (m d : ℕ) where
  byte-zero : d % 256 ≡ 0 → count_trailing_zeros (plus 8 m) d ≡ plus 8 (count_trailing_zeros m (d / 256))
  byte-zero e =
      let h : halves 8 d ≡ d / 256 = omega arith in
      high 8 m d (omega arith, (omega arith, (omega arith, (omega arith, (omega arith, (omega arith, (omega arith, (omega arith, tt)))))))) ∙ rw h

  byte-other : (d % 256 ≡ 0 → ⊥) → count_trailing_zeros (plus 8 m) d < 8
  byte-other n = low 8 m d (λ l. n (omega (arith, l.0, l.1.0, l.1.1.0, l.1.1.1.0, l.1.1.1.1.0, l.1.1.1.1.1.0, l.1.1.1.1.1.1.0, l.1.1.1.1.1.1.1.0)))

-- the digits of k bytes, k spaces as one number, and a number k bytes higher
abbrev digits_of : ℕ → ℕ
digits_of zero = 0
digits_of (suc k) = plus 8 (digits_of k)

abbrev spaces_of : ℕ → ℕ
spaces_of zero = 0
spaces_of (suc k) = 32 + 256 * spaces_of k

abbrev raised : ℕ → ℕ → ℕ
raised zero q = q
raised (suc k) q = 256 * raised k q

counts : (l : List ℕ) (d q : ℕ) → all is_byte l ≡ true → d + spaces_of (length l) ≡ low_first l + raised (length l) q → count_trailing_zeros (digits_of (length l)) d / 8 ≡ length (run is_space l)
unfolding low_first run count_trailing_zeros
counts [] d q a h = refl
counts (b ∷ l) d q a h = go (eqb b 32) refl (λ e. counts l e q (and-2 _ _ a))
  where
    go : (t : Bool) → eqb b 32 ≡ t → ((e : ℕ) → e + spaces_of (length l) ≡ low_first l + raised (length l) q → count_trailing_zeros (digits_of (length l)) e / 8 ≡ length (run is_space l))
        → count_trailing_zeros (plus 8 (digits_of (length l))) d / 8 ≡ length (cond t (b ∷ run is_space l) [])
    go true e next =
        let z : b ≡ 32 = eqb-true b 32 e in
        let r : d % 256 ≡ 0 = omega (arith, h, z) in
        let n = next (d / 256) (omega (arith, h, z)) in
        rw (byte-zero (digits_of (length l)) d r) (omega (arith, n))
    go false e next =
        let f : b < 256 = ltb-true b 256 (and-1 _ _ a) in
        let k = byte-other (digits_of (length l)) d (λ r. eqb-false b 32 e (omega (arith, h, f, r))) in
        omega (arith, k)

-- eight bytes as one number, one by one
low-on : (l : List ℕ) (j k : ℕ) → j < length l → k ≡ suc j → low_first (drop j l) ≡ get_or l j 0 + 256 * low_first (drop k l)
unfolding low_first
low-on l j k h e = rw (e, drop-cons l j 0 h)

low-end : (l : List ℕ) (k : ℕ) → length l ≤ k → low_first (drop k l) ≡ 0
unfolding low_first
low-end l k h = rw (drop_of_length-le l h)

bytes-are : (l : List ℕ) → ((i : ℕ) → get_or l i 0 < 256) → all is_byte l ≡ true
bytes-are [] h = refl
bytes-are (x ∷ l) h = and_i (lt-ltb x 256 (h 0)) (bytes-are l (λ i. h (suc i)))

-- eight bytes, and how many of them are spaces in front
pub leading-spaces : (l : List ℕ) (v : ℕ) → length l ≡ 8 → ((i : ℕ) → get_or l i 0 < 256)
    → v ≡ get_or l 0 0 + get_or l 1 0 * 256 + get_or l 2 0 * 65536 + get_or l 3 0 * 16777216 + get_or l 4 0 * 4294967296 + get_or l 5 0 * 1099511627776
    + get_or l 6 0 * 281474976710656 + get_or l 7 0 * 72057594037927936
    → v < 18446744073709551616
    → count_trailing_zeros 64 ((v + 16131858542891098080) % 18446744073709551616) / 8 ≡ length (run is_space l)
leading-spaces l v n b e w =
    let d = (v + 16131858542891098080) % 18446744073709551616 in
    let q = (d + 2314885530818453536) / 18446744073709551616 in
    let low : v ≡ low_first l = omega (
      arith,
      e,
      low-on l 0 1 (omega arith) refl,
      low-on l 1 2 (omega arith) refl,
      low-on l 2 3 (omega arith) refl,
      low-on l 3 4 (omega arith) refl,
      low-on l 4 5 (omega arith) refl,
      low-on l 5 6 (omega arith) refl,
      low-on l 6 7 (omega arith) refl,
      low-on l 7 8 (omega arith) refl,
      low-end l 8 (omega arith),
    ) in
    let f : d + spaces_of (length l) ≡ low_first l + raised (length l) q = rw n (omega (arith, low, w)) in
    let r : count_trailing_zeros (digits_of (length l)) d / 8 ≡ length (run is_space l) = counts l d q (bytes-are l b) f in
    ap (λ (k : ℕ). count_trailing_zeros (digits_of k) d / 8) (sym n) ∙ r

-- a run that ends within the first k bytes
module _ (p : ℕ → Bool) where
  run_ends : (k : ℕ) (l : List ℕ) → k ≤ length l → length (run p (take k l)) < k → past p l ≡ drop (length (run p (take k l))) l
  unfolding run past
  run_ends zero l h n = absurd (omega arith)
  run_ends (suc k) [] h n = absurd (omega arith)
  run_ends (suc k) (x ∷ l) h n = go (p x) (run_ends k l (omega arith)) n
    where
      go : (t : Bool) → (length (run p (take k l)) < k → past p l ≡ drop (length (run p (take k l))) l) → length (cond t (x ∷ run p (take k l)) []) < suc k
          → cond t (past p l) (x ∷ l) ≡ drop (length (cond t (x ∷ run p (take k l)) [])) (x ∷ l)
      go true f n = f (omega arith)
      go false f n = refl

-- past the spaces of eight bytes
module _ (m : List ℕ) (j : ℕ) (w : j + 8 ≤ length m) {n : ℕ} (e : n ≡ length (run is_space (take 8 (drop j m)))) where
  eight-left : 8 ≤ length (drop j m)
  eight-left = simp length-drop (omega arith)

  pub spaces-end : n < 8 → Reached m (past is_space (drop j m)) (j + n)
  spaces-end h = record { within = omega arith; left = sym (drop-drop n j m) ∙ ap (λ (i : ℕ). drop i (drop j m)) e ∙ sym (run_ends is_space 8 (drop j m) eight-left (rw (← e) h)) }

  pub spaces-on : 8 ≤ n → past is_space (drop (j + 8) m) ≡ past is_space (drop j m)
  spaces-on h = (past-block is_space m j 8 (omega arith) refl (block_in is_space 8 (drop j m) eight-left ∙ run-all is_space (take 8 (drop j m)) (rw length-take (omega arith)))).1

-- the first eight bytes of what is left at j
module _ (m : List ℕ) (j : ℕ) (b : List ℕ) (h : IsFirstChunk (take (length m - j) (drop j m)) b 8) where
  rest : take (length m - j) (drop j m) ≡ drop j m
  rest = part-all j m

  pub chunk-within : j + 8 ≤ length m
  chunk-within = let e = rw rest at h.enough in omega (arith, e, length-drop j m)

  pub chunk-is : b ≡ take 8 (drop j m)
  chunk-is = h.same ∙ ap (take 8) rest
