-- The values of the rules, evaluated: a changed numeral or order fails here.
use Rattle.std.specs.Prelude.{ℕ, ◌≡◌, refl, List, [], ◌∷◌, map, Bool, true, false}
use Rattle.text.specs.Choice.{◌and◌}
use Rattle.runway.specs.Time.{is_short_month, days_of, real_day, real_clock, real_time}
use Rattle.runway.specs.Runway.{valid_runway}
use Rattle.surface.specs.declared.Third.{Third}
use Rattle.surface.specs.Descriptions.{not_reported, dry_snow, frost, slush, standing_water, wet, wet_snow, is_contaminant, is_deep}
use Rattle.surface.specs.Third.{third, is_coverage, valid_coverage, least_depth, is_reported, valid_depth, valid_third}
use Rattle.row.specs.declared.Row.{Row}
use Rattle.row.specs.Row.{three_that, same_runway, valid_row}
use Rattle.due.specs.Third.{rise, size, figure, is_significant, depth_counts, third_counts}
use Rattle.due.specs.Change.{counts_of, is_due, compared, no_thirds, refused, change}

abbrev deep : List ℕ
deep = standing_water ∷ slush ∷ wet_snow ∷ dry_snow ∷ []

pub record Figures : Type 0 where
  -- "standing water 3 mm, slush 3, wet snow 5, dry snow 20"; frost has no line
  pub figures : map figure (standing_water ∷ slush ∷ wet_snow ∷ dry_snow ∷ frost ∷ []) ≡ 3 ∷ 3 ∷ 5 ∷ 20 ∷ 0 ∷ []
  -- up, down, and none
  pub sizes : map (λ new. size (rise 10 new)) (0 ∷ 7 ∷ 9 ∷ 10 ∷ 11 ∷ 999 ∷ []) ≡ 10 ∷ 3 ∷ 1 ∷ 0 ∷ 1 ∷ 989 ∷ []

pub the-figures : Figures
unfolding size rise
the-figures = record { figures = refl; sizes = refl }

-- a third under a description, of this depth now, against each of several depths; and each of them against it
abbrev towards : ℕ → ℕ → List ℕ → List Bool
towards d now = map (λ x. third_counts (third 3 25 now d) (third 3 25 x d))

abbrev from : ℕ → ℕ → List ℕ → List Bool
from d now = map (λ x. third_counts (third 3 25 x d) (third 3 25 now d))

pub record Depths : Type 0 where
  -- each figure and the one below it, down and up, both ways round
  pub water : towards standing_water 100 (97 ∷ 98 ∷ 100 ∷ 102 ∷ 103 ∷ []) ≡ true ∷ false ∷ false ∷ false ∷ true ∷ []
  pub water-back : from standing_water 100 (97 ∷ 98 ∷ 100 ∷ 102 ∷ 103 ∷ []) ≡ true ∷ false ∷ false ∷ false ∷ true ∷ []
  pub of-slush : towards slush 100 (97 ∷ 98 ∷ 100 ∷ 102 ∷ 103 ∷ []) ≡ true ∷ false ∷ false ∷ false ∷ true ∷ []
  pub slush-back : from slush 100 (97 ∷ 98 ∷ 100 ∷ 102 ∷ 103 ∷ []) ≡ true ∷ false ∷ false ∷ false ∷ true ∷ []
  pub wet-snow : towards wet_snow 100 (95 ∷ 96 ∷ 100 ∷ 104 ∷ 105 ∷ []) ≡ true ∷ false ∷ false ∷ false ∷ true ∷ []
  pub wet-snow-back : from wet_snow 100 (95 ∷ 96 ∷ 100 ∷ 104 ∷ 105 ∷ []) ≡ true ∷ false ∷ false ∷ false ∷ true ∷ []
  pub dry-snow : towards dry_snow 100 (80 ∷ 81 ∷ 100 ∷ 119 ∷ 120 ∷ []) ≡ true ∷ false ∷ false ∷ false ∷ true ∷ []
  pub dry-snow-back : from dry_snow 100 (80 ∷ 81 ∷ 100 ∷ 119 ∷ 120 ∷ []) ≡ true ∷ false ∷ false ∷ false ∷ true ∷ []
  -- the least and the greatest depths
  pub ends : towards standing_water 4 (4 ∷ 6 ∷ 7 ∷ 999 ∷ []) ≡ false ∷ false ∷ true ∷ true ∷ []
  -- "NR against a number", however small; NR against NR is no change
  pub nr : map (λ d. towards d not_reported (not_reported ∷ 3 ∷ 4 ∷ 999 ∷ [])) deep ≡ map (λ d. false ∷ true ∷ true ∷ true ∷ []) deep
  pub nr-back : map (λ d. from d not_reported (not_reported ∷ 3 ∷ 4 ∷ 999 ∷ [])) deep ≡ map (λ d. false ∷ true ∷ true ∷ true ∷ []) deep

pub depths : Depths
unfolding ◌and◌ is_deep size rise is_significant depth_counts third_counts
depths = record {
  water = refl;
  water-back = refl;
  of-slush = refl;
  slush-back = refl;
  wet-snow = refl;
  wet-snow-back = refl;
  dry-snow = refl;
  dry-snow-back = refl;
  ends = refl;
  nr = refl;
  nr-back = refl;
}

abbrev snow : Third
snow = third 3 25 10 wet_snow

pub record Others : Type 0 where
  -- "A change of code, coverage, description": each alone, and none
  pub one : map (third_counts snow) (snow ∷ third 2 25 10 wet_snow ∷ third 3 50 10 wet_snow ∷ third 3 0 10 wet_snow ∷ third 3 25 10 slush ∷ [])
      ≡ false ∷ true ∷ true ∷ true ∷ true ∷ []
  -- a description counts with no depth, too
  pub bare : map (third_counts (third 5 25 not_reported wet)) (third 5 25 not_reported wet ∷ third 5 25 not_reported frost ∷ third 5 25 not_reported slush ∷ []) ≡ false ∷ true ∷ true ∷ []
  -- a description without a line has no figure
  pub no_line : third_counts (third 5 25 3 frost) (third 5 25 900 frost) ≡ false

pub others : Others
unfolding ◌and◌ is_deep size rise is_significant depth_counts third_counts
others = record { one = refl; bare = refl; no_line = refl }

-- a row of runway 07 at 01120640
abbrev row : Third → Third → Third → ℕ → Row
row a b c w = record { time = 1120640; number = 7; side = 0; thirds = a ∷ b ∷ c ∷ []; width = w }

abbrev shown : Row
shown = row snow snow snow 30

-- the same with another time, runway, side
abbrev with : ℕ → ℕ → ℕ → Row → Row
with t n s r = record { time = t; number = n; side = s; thirds = r.thirds; width = r.width }

-- five millimetres more, four millimetres more
abbrev more : Third
more = third 3 25 15 wet_snow

abbrev little : Third
little = third 3 25 14 wet_snow

-- a code 7
abbrev bad : Row
bad = row snow snow (third 7 25 10 wet_snow) 30

-- three thirds that differ
abbrev mixed : Row
mixed = row snow (third 3 25 50 wet_snow) (third 3 25 90 wet_snow) 30

pub record Rows : Type 0 where
  pub itself : change shown shown ≡ compared no_thirds false
  pub less : change shown (row little little little 30) ≡ compared no_thirds false
  -- each third in its place
  pub first : change shown (row more little snow 30) ≡ compared (true ∷ false ∷ false ∷ []) true
  pub middle : change shown (row little more snow 30) ≡ compared (false ∷ true ∷ false ∷ []) true
  pub third' : change shown (row snow little more 30) ≡ compared (false ∷ false ∷ true ∷ []) true
  pub all_three : change (row more more more 30) shown ≡ compared (true ∷ true ∷ true ∷ []) true
  -- a changed width makes the notice due, and no third counts for it; missing against a width too
  pub width : map (λ w. change shown (row snow snow snow w)) (0 ∷ 29 ∷ 30 ∷ 31 ∷ [])
      ≡ compared no_thirds true ∷ compared no_thirds true ∷ compared no_thirds false ∷ compared no_thirds true ∷ []
  -- "times don't matter", whichever is later
  pub time : map (λ t. change shown (with t 7 0 shown)) (1010000 ∷ 12312359 ∷ []) ≡ compared no_thirds false ∷ compared no_thirds false ∷ []
  -- 29: another number, another side; 07 and 07L are different runways
  pub apart : map (λ r. change shown r) (with 1120640 8 0 shown ∷ with 1120640 7 1 shown ∷ with 1120640 7 2 (row more more more 0) ∷ []) ≡ refused 29 ∷ refused 29 ∷ refused 29 ∷ []
  pub apart-back : map (λ r. change r shown) (with 1120640 8 0 shown ∷ with 1120640 7 1 shown ∷ []) ≡ refused 29 ∷ refused 29 ∷ []
  pub one_side : change (with 1120640 7 1 shown) (with 1120640 7 1 shown) ≡ compared no_thirds false
  -- 19: the old, the new, both; and before 29
  pub invalid : change bad shown ∷ change shown bad ∷ change bad bad ∷ [] ≡ refused 19 ∷ refused 19 ∷ refused 19 ∷ []
  pub invalid-first : change bad (with 1120640 8 0 shown) ∷ change (with 1120640 8 0 shown) bad ∷ [] ≡ refused 19 ∷ refused 19 ∷ []
  pub no-time : change shown (with 2300000 7 0 shown) ≡ refused 19
  -- standing water of 03 is no row's: 19, though the difference would count
  pub least : map (λ x. change (row (third 2 25 7 standing_water) snow snow 0) (row (third 2 25 x standing_water) snow snow 0)) (3 ∷ 4 ∷ 5 ∷ [])
      ≡ refused 19 ∷ compared (true ∷ false ∷ false ∷ []) true ∷ compared no_thirds false ∷ []
  -- each third against the one in its own place
  pub places : change mixed mixed ∷ change mixed (row little (third 3 25 45 wet_snow) (third 3 25 86 wet_snow) 30) ∷ []
      ≡ compared no_thirds false ∷ compared (false ∷ true ∷ false ∷ []) true ∷ []
  -- what an answer and a refusal hold
  pub answer : compared no_thirds true ≡ record { refusal = 0; counts = false ∷ false ∷ false ∷ []; due = true }
  pub nothing : refused 29 ≡ record { refusal = 29; counts = false ∷ false ∷ false ∷ []; due = false }

pub rows : Rows
unfolding ◌and◌ is_short_month days_of real_day real_clock real_time valid_runway is_contaminant is_deep is_coverage valid_coverage least_depth is_reported
    valid_depth valid_third three_that same_runway valid_row size rise is_significant depth_counts third_counts counts_of is_due change
rows = record {
  itself = refl;
  less = refl;
  first = refl;
  middle = refl;
  third' = refl;
  all_three = refl;
  width = refl;
  time = refl;
  apart = refl;
  apart-back = refl;
  one_side = refl;
  invalid = refl;
  invalid-first = refl;
  no-time = refl;
  least = refl;
  places = refl;
  answer = refl;
  nothing = refl;
}
