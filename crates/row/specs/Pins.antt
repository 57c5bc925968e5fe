-- Tables that the checker evaluates: the rules of a row on both sides of each bound, and the agreement check.
use Rattle.std.specs.Prelude.{ℕ, ◌≡◌, refl, List, [], ◌∷◌, map, true, false}
use Rattle.text.specs.Choice.{◌and◌}
use Rattle.runway.specs.Time.{is_short_month, days_of, real_day, real_clock, real_time}
use Rattle.runway.specs.Runway.{valid_runway}
use Rattle.surface.specs.Descriptions.{is_contaminant, is_deep, not_reported, compacted_snow, slush, standing_water, wet, dry}
use Rattle.surface.specs.Third.{third, blank_third, is_blank_third, is_coverage, valid_coverage, least_depth, is_reported, valid_depth, valid_third}
use Rattle.surface.specs.Table1.{table1, is_named, can_hold, allows, agrees}
use Rattle.surface.specs.declared.Third.{Third}
use Rattle.row.specs.Row.{blank_row, three_that, is_blank_row, valid_row, is_bare, is_six, is_dry, is_short}
use Rattle.row.specs.Agreement.{disagrees, disagreements, agreement}
use Rattle.row.specs.declared.Row.{Row}
use Rattle.row.specs.declared.Agreement.{Agreement}

abbrev pub row : ℕ → ℕ → ℕ → List Third → ℕ → Row
row time number side ts width = record { time = time; number = number; side = side; thirds = ts; width = width }

abbrev pub each : Third → List Third
each t = t ∷ t ∷ t ∷ []

abbrev pub bare : ℕ → ℕ → Third
bare code description = third code not_reported not_reported description

pub record Rules : Type 0 where
  times : map (λ t. valid_row (row t 7 0 (each (bare 6 dry)) 0)) (0 ∷ 1120640 ∷ 2290000 ∷ 2300000 ∷ []) ≡ false ∷ true ∷ true ∷ false ∷ []
  numbers : map (λ n. valid_row (row 1120640 n 0 (each (bare 6 dry)) 0)) (0 ∷ 1 ∷ 18 ∷ 19 ∷ []) ≡ false ∷ true ∷ true ∷ false ∷ []
  sides : map (λ s. valid_row (row 1120640 7 s (each (bare 6 dry)) 0)) (0 ∷ 1 ∷ 2 ∷ 3 ∷ 4 ∷ []) ≡ true ∷ true ∷ true ∷ true ∷ false ∷ []
  widths : map (λ w. valid_row (row 1120640 7 0 (each (bare 6 dry)) w)) (0 ∷ 1 ∷ 99 ∷ 100 ∷ []) ≡ true ∷ true ∷ true ∷ false ∷ []
  thirds : map (λ t. valid_row (row 1120640 7 0 (bare 6 dry ∷ bare 6 dry ∷ t ∷ []) 0)) (bare 6 dry ∷ bare 7 dry ∷ third 6 25 0 dry ∷ [])
      ≡ true ∷ false ∷ false ∷ []
  two-thirds : valid_row (row 1120640 7 0 (bare 6 dry ∷ bare 6 dry ∷ []) 0) ≡ false
  blank : is_blank_row blank_row ≡ true
  not-blank : map is_blank_row (row 1 0 0 (each blank_third) 0 ∷ row 0 1 0 (each blank_third) 0 ∷ row 0 0 1 (each blank_third) 0 ∷ row 0 0 0 (each blank_third) 1
      ∷ row 0 0 0 (each (bare 6 dry)) 0 ∷ []) ≡ false ∷ false ∷ false ∷ false ∷ false ∷ []
  blank-invalid : valid_row blank_row ≡ false
  -- "Short row: if all codes are 6 or all descriptions DRY, and all coverages and depths are NR"
  short : map is_short (each (bare 6 dry) ∷ each (bare 6 not_reported) ∷ each (bare 5 dry) ∷ each (bare 5 wet) ∷ []) ≡ true ∷ true ∷ true ∷ false ∷ []
  one-off : map is_short ((bare 6 wet ∷ bare 6 wet ∷ bare 5 wet ∷ []) ∷ (bare 5 dry ∷ bare 5 wet ∷ bare 5 dry ∷ [])
      ∷ (third 6 25 not_reported wet ∷ bare 6 wet ∷ bare 6 wet ∷ []) ∷ (bare 6 slush ∷ bare 6 slush ∷ third 6 not_reported 3 slush ∷ []) ∷ [])
      ≡ false ∷ false ∷ false ∷ false ∷ []

pub rules : Rules
unfolding ◌and◌ is_short_month days_of real_day real_clock real_time valid_runway is_contaminant is_deep is_coverage valid_coverage
    least_depth is_reported valid_depth valid_third is_blank_third three_that is_blank_row valid_row is_bare is_six is_dry is_short
rules = record {
  times = refl;
  numbers = refl;
  sides = refl;
  widths = refl;
  thirds = refl;
  two-thirds = refl;
  blank = refl;
  not-blank = refl;
  blank-invalid = refl;
  short = refl;
  one-off = refl;
}

abbrev judged : List Third → Agreement
judged ts = agreement (row 1120640 7 0 ts 0)

abbrev counted : ℕ → Agreement
counted n = record { refusal = 0; count = n }

-- "DRY allows 6, WET 5 and 3, COMPACTED SNOW 4 and 3; NR allows every code"; "STANDING WATER with NR allows none"
pub record Counts : Type 0 where
  none : judged (bare 6 dry ∷ bare 5 wet ∷ bare 0 not_reported ∷ []) ≡ counted 0
  one : judged (bare 5 dry ∷ bare 3 wet ∷ bare 4 compacted_snow ∷ []) ≡ counted 1
  two : judged (bare 3 compacted_snow ∷ bare 2 standing_water ∷ bare 6 wet ∷ []) ≡ counted 2
  three : judged (bare 2 slush ∷ third 5 100 4 slush ∷ bare 5 standing_water ∷ []) ≡ counted 3
  -- "An invalid row is refused (19, count 0)"
  invalid : judged (each (bare 7 dry)) ≡ record { refusal = 19; count = 0 }

pub counts : Counts
unfolding ◌and◌ is_short_month days_of real_day real_clock real_time valid_runway is_contaminant is_deep is_coverage valid_coverage least_depth
    is_reported valid_depth valid_third three_that valid_row table1 is_named can_hold allows agrees disagrees disagreements agreement
counts = record { none = refl; one = refl; two = refl; three = refl; invalid = refl }
