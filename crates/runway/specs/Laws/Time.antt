-- Which of two times is later is a strict total order of the real times: nothing else is used of it.
use Rattle.std.specs.Prelude.{ℕ, ◌+◌, ◌/◌, ◌%◌, ◌<◌, ◌≤◌, ◌≡◌, refl, cond, Bool, true, false, eqb, ltb}
use Rattle.std.proofs.Common.{sym, ◌∙◌, eqb-true, ltb-true, ltb-false, leb-true, lt-ltb, le-ltb, arith}
use Rattle.std.proofs.lemmas.Bool.{eqb-false}
use Rattle.text.specs.Laws.Base.{and-1, and-2}
use Rattle.runway.specs.Time.{is_short_month, days_of, real_day, real_clock, real_time, season_start, in_season, later}

pub later-self : (t : ℕ) → real_time t ≡ true → later t t ≡ false
unfolding later
later-self t h = le-ltb (in_season t) (in_season t) (omega arith)

pub later_trans : (a b c : ℕ) → real_time a ≡ true → real_time b ≡ true → real_time c ≡ true → later a b ≡ true → later b c ≡ true → later a c ≡ true
unfolding later
later_trans a b c ra rb rc p q =
    let x = ltb-true (in_season b) (in_season a) p in
    let y = ltb-true (in_season c) (in_season b) q in
    lt-ltb (in_season c) (in_season a) (omega arith)

-- a real time is of a month from 1 to 12
record Months (t : ℕ) : Type 0 where
  from-1 : 1000000 ≤ t
  to-12 : t < 13000000

months : (t : ℕ) → real_time t ≡ true → Months t
unfolding real_time real_day
months t h =
    let first = leb-true 1 (t / 1000000) (and-1 _ _ (and-1 _ _ h)) in
    let last = leb-true (t / 1000000) 12 (and-1 _ _ (and-2 _ _ (and-1 _ _ h))) in
    record { from-1 = omega arith; to-12 = omega arith }

-- so that no two of them stand at one place of the season
season-one : (a b : ℕ) → Months a → Months b → in_season a ≡ in_season b → a ≡ b
season-one a b m n = go (ltb a season_start) refl (ltb b season_start) refl
  where
    go : (x : Bool) → ltb a season_start ≡ x → (y : Bool) → ltb b season_start ≡ y → cond x (a + 12000000) a ≡ cond y (b + 12000000) b → a ≡ b
    go true e true f h = omega (arith, h)
    go true e false f h = omega (arith, h, m.from-1, n.to-12)
    go false e true f h = omega (arith, h, n.from-1, m.to-12)
    go false e false f h = h

pub later-total : (a b : ℕ) → real_time a ≡ true → real_time b ≡ true → later a b ≡ false → later b a ≡ false → a ≡ b
unfolding later
later-total a b ra rb p q =
    let x = ltb-false (in_season b) (in_season a) p in
    let y = ltb-false (in_season a) (in_season b) q in
    season-one a b (months a ra) (months b rb) (omega arith)

-- "July comes first and June last": no time is before 07010000, and none later than 06302359
pub july-first : (t : ℕ) → real_time t ≡ true → later 7010000 t ≡ false
unfolding later
july-first t h = go (ltb t season_start) refl
  where
    go : (x : Bool) → ltb t season_start ≡ x → ltb (cond x (t + 12000000) t) 7010000 ≡ false
    go true e = le-ltb (t + 12000000) 7010000 (omega arith)
    go false e = e

-- and any of January to June is later than any of July to December
pub over-new-year : (t s : ℕ) → real_time s ≡ true → 1000000 ≤ t → t < 7010000 → 7010000 ≤ s → later t s ≡ true
unfolding later
over-new-year t s h k l m =
    rw (lt-ltb t season_start l, le-ltb s season_start m) (lt-ltb s (t + 12000000) (omega (arith, (months s h).to-12)))

-- a real time before 1 July is 06302359 or before
by-june : (t : ℕ) → real_time t ≡ true → t < season_start → t ≤ 6302359
unfolding real_time real_day real_clock is_short_month days_of
by-june t h l =
    let first = leb-true 1 (t / 10000 % 100) (and-1 _ _ (and-2 _ _ (and-2 _ _ (and-1 _ _ h)))) in
    let days = leb-true (t / 10000 % 100) (days_of (t / 1000000)) (and-2 _ _ (and-2 _ _ (and-2 _ _ (and-1 _ _ h)))) in
    let hours = ltb-true (t % 10000 / 100) 24 (and-1 _ _ (and-2 _ _ h)) in
    let minutes = ltb-true (t % 10000 % 100) 60 (and-2 _ _ (and-2 _ _ h)) in
    go (eqb (t / 1000000) 6) refl first days hours minutes
  where
    thirty : days_of 6 ≡ 30
    thirty = refl

    go : (x : Bool) → eqb (t / 1000000) 6 ≡ x → 1 ≤ t / 10000 % 100 → t / 10000 % 100 ≤ days_of (t / 1000000) → t % 10000 / 100 < 24 → t % 10000 % 100 < 60
        → t ≤ 6302359
    go true e a b c d = let m = eqb-true (t / 1000000) 6 e in let k : t / 10000 % 100 ≤ 30 = rw (m, thirty) at b in omega arith
    go false e a b c d = let m = eqb-false (t / 1000000) 6 e in omega (arith, m)

pub june-last : (t : ℕ) → real_time t ≡ true → later t 6302359 ≡ false
unfolding later
june-last t h = go (ltb t season_start) refl
  where
    go : (x : Bool) → ltb t season_start ≡ x → ltb 18302359 (cond x (t + 12000000) t) ≡ false
    go true e = le-ltb 18302359 (t + 12000000) (omega (arith, by-june t h (ltb-true t season_start e)))
    go false e = le-ltb 18302359 t (omega (arith, (months t h).to-12))

-- what follows from the three
pub later-back : (a b : ℕ) → real_time a ≡ true → real_time b ≡ true → later a b ≡ true → later b a ≡ false
later-back a b ra rb p = go (later b a) refl
  where
    go : (t : Bool) → later b a ≡ t → t ≡ false
    go false e = refl
    go true e = sym (later_trans a b a ra rb ra p e) ∙ later-self a ra

pub later-over : (a b c : ℕ) → real_time a ≡ true → real_time b ≡ true → real_time c ≡ true → later a b ≡ true → later c b ≡ false → later a c ≡ true
later-over a b c ra rb rc p q = go (later b c) refl
  where
    go : (t : Bool) → later b c ≡ t → later a c ≡ true
    go true e = later_trans a b c ra rb rc p e
    go false e = rw (later-total c b rc rb q e) p
