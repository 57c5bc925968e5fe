-- An observation time MMDDhhmm, as a number, and which of two is later.
use Rattle.std.specs.Prelude.{ℕ, ◌+◌, ◌/◌, ◌%◌, [], ◌∷◌, cond, Bool, eqb, leb, ltb}
use Rattle.text.specs.Choice.{◌and◌, member}

-- the months of thirty days
unfoldable pub is_short_month : ℕ → Bool
is_short_month month = member (4 ∷ 6 ∷ 9 ∷ 11 ∷ []) month

-- the days of a month, 29 February included
unfoldable pub days_of : ℕ → ℕ
days_of month = cond (eqb month 2) 29 (cond (is_short_month month) 30 31)

-- "a real day of its month"
unfoldable pub real_day : ℕ → ℕ → Bool
real_day month day = leb 1 month and leb month 12 and leb 1 day and leb day (days_of month)

-- "hours 00 to 23, minutes 00 to 59"
unfoldable pub real_clock : ℕ → Bool
real_clock hhmm = ltb (hhmm / 100) 24 and ltb (hhmm % 100) 60

-- "An observation time is MMDDhhmm"
unfoldable pub real_time : ℕ → Bool
real_time t = real_day (t / 1000000) (t / 10000 % 100) and real_clock (t % 10000)

-- "from 1 July"
abbrev pub season_start : ℕ
season_start = 7010000

-- "July comes first and June last": January to June follow December, as if they were months 13 to 18
abbrev pub in_season : ℕ → ℕ
in_season t = cond (ltb t season_start) (t + 12000000) t

-- season order: the one order of times
unfoldable pub later : ℕ → ℕ → Bool
later t s = ltb (in_season s) (in_season t)
