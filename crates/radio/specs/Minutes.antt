-- "minutes since 1 January 00:00 of a leap year"
use Rattle.std.specs.Prelude.{ℕ, zero, suc, ◌+◌, ◌-◌, ◌*◌, ◌/◌, ◌%◌, ltb, cond}
use Rattle.runway.specs.Time.{days_of}

-- the days of the first n months
unfoldable pub days_in : ℕ → ℕ
days_in zero = 0
days_in (suc n) = days_in n + days_of (suc n)

-- the days since 1 January
unfoldable pub day_number : ℕ → ℕ → ℕ
day_number month day = days_in (month - 1) + (day - 1)

-- the minutes of hhmm since 00:00
unfoldable pub minute_number : ℕ → ℕ
minute_number hhmm = hhmm / 100 * 60 + hhmm % 100

-- those of MMDDhhmm since 1 January 00:00
unfoldable pub minutes_of : ℕ → ℕ
minutes_of t = day_number (t / 1000000) (t / 10000 % 100) * 1440 + minute_number (t % 10000)

-- MMDD of the day d days behind the first of a month, up to n months later
unfoldable pub date_from : ℕ → ℕ → ℕ → ℕ
date_from zero month d = month * 100 + (d + 1)
date_from (suc n) month d = cond (ltb d (days_of month)) (month * 100 + (d + 1)) (date_from n (suc month) (d - days_of month))

-- the date of a day of the year
abbrev pub date_of : ℕ → ℕ
date_of d = date_from 11 1 d

-- hhmm of a minute of the day
unfoldable pub clock_of : ℕ → ℕ
clock_of m = m / 60 * 100 + m % 60

-- and back to MMDDhhmm
unfoldable pub time_of : ℕ → ℕ
time_of x = date_of (x / 1440) * 10000 + clock_of (x % 1440)

-- the minutes of a leap year
abbrev pub year_minutes : ℕ
year_minutes = 527040
