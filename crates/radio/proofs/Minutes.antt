-- The loops over the months.
use Prim.Native.Nat.{ℕ, suc, ◌+◌, ◌-◌, ◌*◌, ◌/◌, ◌%◌, ◌<◌, ◌≤◌}
use mathlib.Core.Path.{◌≡◌, sym, ap, ◌∙◌, subst}
use mathlib.Core.Bool.{Bool, true, false, cond}
use lib.Dec.{eqb}
use borrow.Author.Tests.{leb-true, ltb-true}
use native.Mathlib.Numerals.{add-one}
use native.Mathlib.Omega.{arith}
use Rattle.text.specs.Laws.Base.{and-1, and-2}
use Rattle.runway.specs.Time.{is_short_month, days_of, real_day, real_clock, real_time}
use Rattle.radio.specs.Minutes.{days_in, date_from, date_of}
use Rattle.radio.specs.Laws.Minutes.{date-real, date-stop, date-on, days-on}

-- no month has more than 31 days
pub days-few : (m : ℕ) → days_of m ≤ 31
unfolding days_of
days-few m = go (eqb m 2) (is_short_month m)
  where
    go : (a b : Bool) → cond a 29 (cond b 30 31) ≤ 31
    go true b = omega arith
    go false true = omega arith
    go false false = omega arith

pub date-here : (day month left : ℕ) → left < days_of month → date_from (12 - month) month left ≡ date_of day → month * 100 + (left + 1) ≡ date_of day
date-here day month left h inv = sym (date-stop (12 - month) month left h) ∙ inv

pub date-later : (day month left n : ℕ) → month < 12 → n ≡ days_of month → n ≤ left → date_from (12 - month) month left ≡ date_of day
    → date_from (12 - (month + 1)) (month + 1) (left - n) ≡ date_of day
date-later day month left n h e k inv =
    let w : 12 - month ≡ suc (12 - (month + 1)) = omega arith in
    let d : days_of month ≤ left = subst (λ z. z ≤ left) e k in
    rw (e, add-one) (sym (date-on (12 - suc month) month left d) ∙ (ap (λ z. date_from z month left) (omega arith) ∙ inv))

pub date-last : (day month left : ℕ) → month ≡ 12 → date_from (12 - month) month left ≡ date_of day → 1200 + (left + 1) ≡ date_of day
unfolding date_from
date-last day month left z inv = rw z at inv

-- a date has four digits
pub date-small : (d : ℕ) → d < 366 → date_of d < 1300
unfolding real_day
date-small d h = let k = leb-true (date_of d / 100) 12 (and-1 _ _ (and-2 _ _ (date-real d h))) in omega arith

-- the month, the day and the clock of a real time
pub record Parts (t : ℕ) : Type 0 where
  pub from-1 : 1 ≤ t / 1000000
  pub to-12 : t / 1000000 ≤ 12
  pub day : 1 ≤ t / 10000 % 100
  pub hour : t % 10000 / 100 < 24
  pub minute : t % 10000 % 100 < 60

pub parts : (t : ℕ) → real_time t ≡ true → Parts t
unfolding real_time real_day real_clock
parts t h =
    let d = and-1 _ _ h in
    record {
      from-1 = leb-true 1 (t / 1000000) (and-1 _ _ d);
      to-12 = leb-true (t / 1000000) 12 (and-1 _ _ (and-2 _ _ d));
      day = leb-true 1 (t / 10000 % 100) (and-1 _ _ (and-2 _ _ (and-2 _ _ d)));
      hour = ltb-true (t % 10000 / 100) 24 (and-1 _ _ (and-2 _ _ h));
      minute = ltb-true (t % 10000 % 100) 60 (and-2 _ _ (and-2 _ _ h));
    }

-- the days before the next month
pub days-next : (m n : ℕ) → 1 ≤ m → n ≡ days_in (m - 1) → n + days_of m ≡ days_in (m + 1 - 1)
days-next m n h e =
    let a : m + 1 - 1 ≡ m - 1 + 1 = omega arith in
    let b : m - 1 + 1 ≡ m = omega arith in
    rw (e, a, days-on (m - 1), b)
