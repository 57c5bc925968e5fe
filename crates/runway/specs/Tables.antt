-- The values of the rules, evaluated: a changed numeral or word fails here.
use Rattle.std.specs.Prelude.{ℕ, ◌≡◌, refl, List, [], ◌∷◌, map, Bool, true, false, not, Some, None}
use Rattle.std.proofs.Common.{lit≤}
use Rattle.text.specs.Read.{misfit, got}
use Rattle.runway.specs.Code.Held.{HeldRunway}
use Rattle.text.specs.Choice.{◌and◌, all}
use Rattle.text.specs.Piece.{bytes}
use Rattle.runway.specs.Time.{is_short_month, days_of, real_day, real_clock, real_time, in_season, later}
use Rattle.runway.specs.Runway.{valid_runway, side_name, side_of, is_side}

abbrev last_days : List ℕ
last_days = 1310000 ∷ 2290000 ∷ 3310000 ∷ 4300000 ∷ 5310000 ∷ 6300000 ∷ 7310000 ∷ 8310000 ∷ 9300000 ∷ 10310000 ∷ 11300000 ∷ 12310000 ∷ []

abbrev days_behind : List ℕ
days_behind = 1320000 ∷ 2300000 ∷ 3320000 ∷ 4310000 ∷ 5320000 ∷ 6310000 ∷ 7320000 ∷ 8320000 ∷ 9310000 ∷ 10320000 ∷ 11310000 ∷ 12320000 ∷ []

abbrev first_days : List ℕ
first_days = 1010000 ∷ 2010000 ∷ 3010000 ∷ 4010000 ∷ 5010000 ∷ 6010000 ∷ 7010000 ∷ 8010000 ∷ 9010000 ∷ 10010000 ∷ 11010000 ∷ 12010000 ∷ []

abbrev days_before : List ℕ
days_before = 1000000 ∷ 2000000 ∷ 3000000 ∷ 4000000 ∷ 5000000 ∷ 6000000 ∷ 7000000 ∷ 8000000 ∷ 9000000 ∷ 10000000 ∷ 11000000 ∷ 12000000 ∷ []

abbrev yes : List Bool
yes = true ∷ true ∷ true ∷ true ∷ true ∷ true ∷ true ∷ true ∷ true ∷ true ∷ true ∷ true ∷ []

abbrev no : List Bool
no = false ∷ false ∷ false ∷ false ∷ false ∷ false ∷ false ∷ false ∷ false ∷ false ∷ false ∷ false ∷ []

-- "An observation time is MMDDhhmm, a real day of its month, 29 February included, hours 00 to 23, minutes 00 to 59."
pub record Times : Type 0 where
  pub last-days : map real_time last_days ≡ yes
  pub days-behind : map real_time days_behind ≡ no
  pub first-days : map real_time first_days ≡ yes
  pub days-before : map real_time days_before ≡ no
  pub months : map real_time (150000 ∷ 13150000 ∷ []) ≡ false ∷ false ∷ []
  pub hours : map real_time (1012300 ∷ 1012400 ∷ []) ≡ true ∷ false ∷ []
  pub minutes : map real_time (1010059 ∷ 1010060 ∷ 1012359 ∷ []) ≡ true ∷ false ∷ true ∷ []
  pub more-digits : real_time 101010000 ≡ false

pub times : Times
unfolding is_short_month days_of real_day real_clock real_time ◌and◌
times = record {
  last-days = refl;
  days-behind = refl;
  first-days = refl;
  days-before = refl;
  months = refl;
  hours = refl;
  minutes = refl;
  more-digits = refl;
}

-- times of a season in their order: 1 July first; both sides of New Year and of 29 February; 30 June last
abbrev season : List ℕ
season = 7010000 ∷ 7010001 ∷ 7312359 ∷ 8010000 ∷ 12312349 ∷ 12312350 ∷ 12312359 ∷ 1010000 ∷ 1010010 ∷ 2282359 ∷ 2290000 ∷ 2292359 ∷ 3010000 ∷ 6302358 ∷ 6302359 ∷ []

-- whether a test holds of each time and every one before it
abbrev with_all : (ℕ → ℕ → Bool) → List ℕ → List ℕ → Bool
with_all test seen [] = true
with_all test seen (s ∷ ss) = all (test s) seen and with_all test (s ∷ seen) ss

-- "July comes first and June last"
pub record Seasons : Type 0 where
  pub order : with_all later [] season ≡ true
  pub back : with_all (λ t s. not (later s t)) [] season ≡ true
  pub equal : map (λ t. later t t) (7010000 ∷ 12312359 ∷ 1010000 ∷ 2290000 ∷ 6302359 ∷ []) ≡ false ∷ false ∷ false ∷ false ∷ false ∷ []
  -- the station's own: 01010010 is later than 12312350
  pub new-year : (later 1010010 12312350 ≡ true) × (later 12312350 1010010 ≡ false)
  pub places : map in_season (1010000 ∷ 7009999 ∷ 7010000 ∷ 12312359 ∷ []) ≡ 13010000 ∷ 19009999 ∷ 7010000 ∷ 12312359 ∷ []

pub seasons : Seasons
unfolding later ◌and◌
seasons = record { order = refl; back = refl; equal = refl; new-year = (refl, refl); places = refl }

-- "Runway: 01 to 18, then nothing, L, C or R." "in item I its number may be 01 to 36"
pub record Runways : Type 0 where
  pub numbers : map (λ n. valid_runway 18 n 0) (0 ∷ 1 ∷ 18 ∷ 19 ∷ []) ≡ false ∷ true ∷ true ∷ false ∷ []
  pub higher : map (λ n. valid_runway 36 n 0) (0 ∷ 1 ∷ 36 ∷ 37 ∷ []) ≡ false ∷ true ∷ true ∷ false ∷ []
  pub sides : map (λ s. valid_runway 18 7 s) (0 ∷ 1 ∷ 2 ∷ 3 ∷ 4 ∷ []) ≡ true ∷ true ∷ true ∷ true ∷ false ∷ []
  pub names : map side_name (0 ∷ 1 ∷ 2 ∷ 3 ∷ []) ≡ [] ∷ bytes "L" ∷ bytes "C" ∷ bytes "R" ∷ []
  pub of-bytes : map side_of (bytes "LCRX") ≡ 1 ∷ 2 ∷ 3 ∷ 0 ∷ []
  pub are-sides : map is_side (bytes "LCRX") ≡ true ∷ true ∷ true ∷ false ∷ []
  pub told : HeldRunway (bytes "18R A") (got (18, 3) (bytes " A")) (Some (record { number = 18; side = 3; next = 3 }))
  pub none : HeldRunway (bytes "R") misfit None

pub runways : Runways
unfolding valid_runway ◌and◌
runways = record { numbers = refl; higher = refl; sides = refl; names = refl; of-bytes = refl; are-sides = refl; told = record { within = lit≤ tt; says = refl }; none = record { within = lit≤ tt; says = refl } }
