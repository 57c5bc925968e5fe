-- A number below 2^21 is read back from its bytes, and only its bytes are read as it.
use Rattle.std.specs.Prelude.{ℕ, zero, suc, ◌+◌, ◌-◌, ◌*◌, ◌/◌, ◌%◌, ◌<◌, ◌≤◌, ◌≡◌, refl, List, [], ◌∷◌, ◌++◌, Bool, true, false, cond, ltb, leb}
use Rattle.std.proofs.Common.{ap, ◌∙◌, ltb-true, ltb-false, leb-true, lt-ltb, le-ltb, le-leb, arith}
use Rattle.text.specs.Choice.{all}
use Rattle.radio.specs.Outcome.{taken, need}
use Rattle.text.specs.Laws.Base.{and-1, and-2}
use Rattle.radio.specs.Laws.Outcome.{no-refuse, took, next-took, need-took}
use Rattle.radio.specs.Number.{part, is_byte, groups, higher, read_groups}

-- numbers below this have at most n groups before the last
abbrev pub limit : ℕ → ℕ
limit zero = 128
limit (suc n) = 128 * limit n

pub groups-zero : (x : ℕ) → groups 0 x ≡ x ∷ []
unfolding groups
groups-zero x = refl

pub groups-one : (n x : ℕ) → x < 128 → groups n x ≡ x ∷ []
unfolding groups
groups-one zero x h = refl
groups-one (suc n) x h = rw (lt-ltb x 128 h)

pub groups-more : (n x : ℕ) → 128 ≤ x → groups (suc n) x ≡ (x % 128 + 128) ∷ groups n (x / 128)
unfolding groups
groups-more n x h = rw (le-ltb x 128 h)

read-last : (n least x : ℕ) (m : List ℕ) → x < 128 → least ≤ x → read_groups n least (x ∷ m) ≡ taken (part x m)
unfolding read_groups
read-last zero least x m h k = rw (lt-ltb x 128 h, le-leb least x k)
read-last (suc n) least x m h k = rw (lt-ltb x 128 h, le-leb least x k)

read_more : (n least x : ℕ) (m : List ℕ) → 128 ≤ x → read_groups (suc n) least (x ∷ m) ≡ higher x (read_groups n 1 m)
unfolding read_groups
read_more n least x m h = rw (le-ltb x 128 h)

pub groups-back : (n least x : ℕ) (m : List ℕ) → x < limit n → least ≤ x → read_groups n least (groups n x ++ m) ≡ taken (part x m)
groups-back zero least x m h k = rw (groups-one 0 x h) (read-last 0 least x m h k)
groups-back (suc n) least x m h k = go (ltb x 128) refl (λ p. groups-back n 1 (x / 128) m (omega arith) p)
  where
    go : (t : Bool) → ltb x 128 ≡ t → (1 ≤ x / 128 → read_groups n 1 (groups n (x / 128) ++ m) ≡ taken (part (x / 128) m))
        → read_groups (suc n) least (groups (suc n) x ++ m) ≡ taken (part x m)
    go true e ih = let b = ltb-true x 128 e in rw (groups-one (suc n) x b) (read-last (suc n) least x m b k)
    go false e ih =
        let b = ltb-false x 128 e in
        let q : x % 128 + 128 - 128 + 128 * (x / 128) ≡ x = omega arith in
        rw (groups-more n x b) (read_more n least (x % 128 + 128) (groups n (x / 128) ++ m) (omega arith) ∙ (ap (higher (x % 128 + 128)) (ih (omega arith)) ∙ ap (λ y. taken (part y m)) q))

-- what was read: its bytes, its size, and bytes left
pub record Number (n least : ℕ) (m : List ℕ) (x : ℕ) (r : List ℕ) : Type 0 where
  pub is : m ≡ groups n x ++ r
  pub small : x < limit n
  pub enough : least ≤ x
  pub bytes : all is_byte r ≡ true

last-sound : (n least x : ℕ) (m : List ℕ) (y : ℕ) (r : List ℕ) → x < 128 → 128 ≤ limit n → all is_byte m ≡ true
    → need 31 (leb least x) (taken (part x m)) ≡ taken (part y r) → Number n least (x ∷ m) y r
last-sound n least x m y r h w b e =
    let g = need-took 31 (leb least x) e in
    let k = leb-true least x g.0 in
    took (λ p. Number n least (x ∷ m) p.value p.rest) g.1 (record { is = rw (groups-one n x h); small = omega arith; enough = k; bytes = b })

limit-128 : (n : ℕ) → 128 ≤ limit n
limit-128 zero = omega arith
limit-128 (suc n) = let h = limit-128 n in omega arith

pub groups-sound : (n least : ℕ) (m : List ℕ) (y : ℕ) (r : List ℕ) → least ≤ 1 → all is_byte m ≡ true → read_groups n least m ≡ taken (part y r) → Number n least m y r
unfolding read_groups
groups-sound n least [] y r o b e = no-refuse e
groups-sound zero least (x ∷ m) y r o b e =
    let g = need-took 31 (ltb x 128) e in
    last-sound 0 least x m y r (ltb-true x 128 g.0) (limit-128 0) (and-2 _ _ b) g.1
groups-sound (suc n) least (x ∷ m) y r o b e = go (ltb x 128) refl e (λ z s. groups-sound n 1 m z s (omega arith) (and-2 _ _ b))
  where
    go : (t : Bool) → ltb x 128 ≡ t → cond t (need 31 (leb least x) (taken (part x m))) (higher x (read_groups n 1 m)) ≡ taken (part y r)
        → ((z : ℕ) (s : List ℕ) → read_groups n 1 m ≡ taken (part z s) → Number n 1 m z s) → Number (suc n) least (x ∷ m) y r
    go true q f ih = last-sound (suc n) least x m y r (ltb-true x 128 q) (limit-128 (suc n)) (and-2 _ _ b) f
    go false q f ih =
        let h = ltb-false x 128 q in
        let c = ltb-true x 256 (and-1 _ _ b) in
        let w = next-took (read_groups n 1 m) f in
        let z = w.val.value in
        let s = w.val.rest in
        let i = ih z s w.one in
        let k = i.enough in
        let l = i.small in
        let v = x - 128 + 128 * z in
        let big : 128 ≤ v = omega arith in
        let low : v % 128 + 128 ≡ x = omega arith in
        let high : v / 128 ≡ z = omega arith in
        took (λ p. Number (suc n) least (x ∷ m) p.value p.rest) w.two (record {
          is = rw (groups-more n v big, low, high) (ap (λ k. x ∷ k) i.is);
          small = omega arith;
          enough = omega arith;
          bytes = i.bytes;
        })
