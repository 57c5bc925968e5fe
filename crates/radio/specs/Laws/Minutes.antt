-- Minutes and real times, both ways.
use Rattle.std.specs.Prelude.{ℕ, zero, suc, ◌+◌, ◌-◌, ◌*◌, ◌/◌, ◌%◌, ◌<◌, ◌≤◌, ◌≡◌, refl, Bool, true, cond, eqb, ltb}
use Rattle.std.proofs.Common.{sym, ap, ◌∙◌, ltb-true, leb-true, eqb-true, lt-ltb, le-ltb, add-one, arith}
use Rattle.std.proofs.Math.Nat.{div-div-eq-div-mul}
use Rattle.text.specs.Choice.{◌and◌}
use Rattle.text.specs.Laws.Base.{and-1, and-2, and_i, below, below_at}
use Rattle.runway.specs.Time.{is_short_month, days_of, real_day, real_clock, real_time}
use Rattle.radio.specs.Minutes.{days_in, day_number, minute_number, minutes_of, date_from, date_of, clock_of, time_of, year_minutes}

-- each day of the year has a date, which is real and has its number
dates_good : ℕ → Bool
dates_good d = real_day (date_of d / 100) (date_of d % 100) and eqb (day_number (date_of d / 100) (date_of d % 100)) d

dates-good : below dates_good 366 ≡ true
unfolding below dates_good real_day days_of is_short_month date_from day_number days_in ◌and◌
dates-good = refl

-- each real date has its day
days_good : ℕ → Bool
days_good md = cond (real_day (md / 100) (md % 100)) (ltb (day_number (md / 100) (md % 100)) 366 and eqb (date_of (day_number (md / 100) (md % 100))) md) true

days-good : below days_good 1300 ≡ true
unfolding below days_good real_day days_of is_short_month date_from day_number days_in ◌and◌
days-good = refl

pub date-real : (d : ℕ) → d < 366 → real_day (date_of d / 100) (date_of d % 100) ≡ true
unfolding dates_good
date-real d h = and-1 _ _ (below_at dates_good 366 dates-good d h)

pub date-number : (d : ℕ) → d < 366 → day_number (date_of d / 100) (date_of d % 100) ≡ d
unfolding dates_good
date-number d h = eqb-true _ d (and-2 _ _ (below_at dates_good 366 dates-good d h))

pub day-date : (md : ℕ) → md < 1300 → real_day (md / 100) (md % 100) ≡ true → (day_number (md / 100) (md % 100) < 366) × (date_of (day_number (md / 100) (md % 100)) ≡ md)
unfolding days_good
day-date md h r =
    let g = below_at days_good 1300 days-good md h in
    let k = rw r at g in
    (ltb-true _ 366 (and-1 _ _ k), eqb-true _ md (and-2 _ _ k))

-- hhmm and the minutes of a day
clock-small : (c : ℕ) → real_clock c ≡ true → (minute_number c < 1440) × (clock_of (minute_number c) ≡ c)
unfolding real_clock minute_number clock_of
clock-small c h =
    let a = ltb-true (c / 100) 24 (and-1 _ _ h) in
    let b = ltb-true (c % 100) 60 (and-2 _ _ h) in
    let q : (c / 100 * 60 + c % 100) / 60 ≡ c / 100 = omega arith in
    let r : (c / 100 * 60 + c % 100) % 60 ≡ c % 100 = omega arith in
    (omega arith, rw (q, r) (omega arith))

clock-real : (m : ℕ) → m < 1440 → (clock_of m < 10000) × (real_clock (clock_of m) ≡ true) × (minute_number (clock_of m) ≡ m)
unfolding real_clock minute_number clock_of
clock-real m h =
    let q : (m / 60 * 100 + m % 60) / 100 ≡ m / 60 = omega arith in
    let r : (m / 60 * 100 + m % 60) % 100 ≡ m % 60 = omega arith in
    (omega arith, rw (q, r) (and_i (lt-ltb (m / 60) 24 (omega arith)) (lt-ltb (m % 60) 60 (omega arith))), rw (q, r) (omega arith))

-- the month and the day of a time are those of its date
pub record Real (t : ℕ) : Type 0 where
  pub small : day_number (t / 1000000) (t / 10000 % 100) < 366
  pub date : date_of (day_number (t / 1000000) (t / 10000 % 100)) ≡ t / 10000
  pub clock : real_clock (t % 10000) ≡ true

real : (t : ℕ) → real_time t ≡ true → Real t
unfolding real_time real_day
real t h =
    let m : t / 10000 / 100 ≡ t / 1000000 = div-div-eq-div-mul t 10000 100 in
    let d = and-1 _ _ h in
    let twelve = leb-true (t / 1000000) 12 (and-1 _ _ (and-2 _ _ d)) in
    let g = day-date (t / 10000) (omega arith) (rw m d) in
    let k = rw m at g in
    record { small = k.0; date = k.1; clock = and-2 _ _ h }

pub minutes-small : (t : ℕ) → real_time t ≡ true → minutes_of t < year_minutes
unfolding minutes_of
minutes-small t h =
    let r = real t h in
    let a = r.small in
    let b = (clock-small (t % 10000) r.clock).0 in
    omega arith

pub time-back : (t : ℕ) → real_time t ≡ true → time_of (minutes_of t) ≡ t
unfolding minutes_of time_of
time-back t h =
    let r = real t h in
    let c = clock-small (t % 10000) r.clock in
    let b = c.0 in
    let D = day_number (t / 1000000) (t / 10000 % 100) in
    let N = minute_number (t % 10000) in
    let p : (D * 1440 + N) / 1440 ≡ D = omega arith in
    let q : (D * 1440 + N) % 1440 ≡ N = omega arith in
    rw (p, q, r.date, c.1) (omega arith)

-- the parts of a time that is made
made : (d c : ℕ) → c < 10000 → ((d * 10000 + c) / 10000 ≡ d) × ((d * 10000 + c) % 10000 ≡ c) × ((d * 10000 + c) / 1000000 ≡ d / 100)
made d c h =
    let p : (d * 10000 + c) / 10000 ≡ d = omega arith in
    (p, omega arith, sym (div-div-eq-div-mul (d * 10000 + c) 10000 100) ∙ ap (λ k. k / 100) p)

pub time-real : (x : ℕ) → x < year_minutes → real_time (time_of x) ≡ true
unfolding time_of real_time
time-real x h =
    let c = clock-real (x % 1440) (omega arith) in
    let m = made (date_of (x / 1440)) (clock_of (x % 1440)) c.0 in
    rw (m.0, m.1, m.2) (and_i (date-real (x / 1440) (omega arith)) c.1)

pub minutes-back : (x : ℕ) → x < year_minutes → minutes_of (time_of x) ≡ x
unfolding minutes_of time_of
minutes-back x h =
    let c = clock-real (x % 1440) (omega arith) in
    let m = made (date_of (x / 1440)) (clock_of (x % 1440)) c.0 in
    rw (m.0, m.1, m.2, date-number (x / 1440) (omega arith), c.2) (omega arith)

-- months, one after the other
pub date-stop : (n month d : ℕ) → d < days_of month → date_from n month d ≡ month * 100 + (d + 1)
unfolding date_from
date-stop zero month d h = refl
date-stop (suc n) month d h = rw (lt-ltb d (days_of month) h)

pub date-on : (n month d : ℕ) → days_of month ≤ d → date_from (suc n) month d ≡ date_from n (suc month) (d - days_of month)
unfolding date_from
date-on n month d h = rw (le-ltb d (days_of month) h)

pub days-on : (n : ℕ) → days_in (n + 1) ≡ days_in n + days_of (n + 1)
unfolding days_in
days-on n = rw add-one
