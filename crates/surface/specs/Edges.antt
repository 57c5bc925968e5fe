-- The pairs at each edge that document 01 marks, as far as they are of a third: one table, evaluated by the checker.
use Rattle.std.specs.Prelude.{ℕ, ◌≡◌, refl, true, false, ℤ, pos}
use Rattle.text.specs.Choice
use Rattle.surface.specs.declared.Observation.{Observation}
use Rattle.surface.specs.declared.Assessment.{Assessment}
use Rattle.surface.specs.Descriptions.{not_reported, compacted_snow, frost, slush, standing_water, wet, is_contaminant, is_deep}
use Rattle.surface.specs.Third.{third, is_coverage, valid_coverage, least_depth, is_reported, valid_depth, valid_third}
use Rattle.surface.specs.Table1.{table1, minus, is_named, holds, is_for}
use Rattle.surface.specs.Assess.{assessed_as, is_kind, is_temperature, in_range, is_shallow, covered_dry, deep_wet, deep_other, slippery_other, contradictory, coverage_for}
use Rattle.surface.specs.Assess.{uncovered, is_thin_water, reported_kind, reported_depth, covered, assessed, assessing}

-- an observation of a surface that is not slippery
abbrev seen : ℕ → ℕ → ℕ → ℤ → Observation
seen kind cover depth temperature = record { kind = kind; cover = cover; depth = depth; temperature = temperature; slippery = false }

-- what is reported of it
abbrev report : ℕ → ℕ → ℕ → ℤ → Assessment
report kind cover depth temperature = assessing (seen kind cover depth temperature)

pub record Edges : Type 0 where
  -- "Cover 9* NR, 10* 25, 25* 25, 26* 50"
  cover-9 : report frost 9 0 (pos 0) ≡ assessed_as (third 6 not_reported not_reported not_reported)
  cover-10 : report frost 10 0 (pos 0) ≡ assessed_as (third 5 25 not_reported frost)
  cover-25 : report frost 25 0 (pos 0) ≡ assessed_as (third 5 25 not_reported frost)
  cover-26 : report frost 26 0 (pos 0) ≡ assessed_as (third 5 50 not_reported frost)
  -- "Slush 3 mm* code 5 depth 03, 4 mm* code 2, 2 mm depth NR"
  slush-2 : report slush 100 2 (pos 0) ≡ assessed_as (third 5 100 not_reported slush)
  slush-3 : report slush 100 3 (pos 0) ≡ assessed_as (third 5 100 3 slush)
  slush-4 : report slush 100 4 (pos 0) ≡ assessed_as (third 2 100 4 slush)
  -- "Compacted snow -150* code 4, -149* code 3"
  cold : report compacted_snow 100 0 (minus 150) ≡ assessed_as (third 4 100 not_reported compacted_snow)
  milder : report compacted_snow 100 0 (minus 149) ≡ assessed_as (third 3 100 not_reported compacted_snow)
  -- "Standing water 3 mm* WET 5 NR, 4 mm* code 2 depth 04"
  water-3 : report standing_water 100 3 (pos 0) ≡ assessed_as (third 5 100 not_reported wet)
  water-4 : report standing_water 100 4 (pos 0) ≡ assessed_as (third 2 100 4 standing_water)
  -- "Treating a depth of 03 as legal for standing water" is a slip to rule out
  water-03 : valid_third (third 2 100 3 standing_water) ≡ false
  water-04 : valid_third (third 2 100 4 standing_water) ≡ true

pub edges : Edges
unfolding Choice.◌and◌ is_contaminant is_deep is_coverage valid_coverage least_depth is_reported valid_depth valid_third table1 is_named holds is_for
    is_kind is_temperature in_range is_shallow covered_dry deep_wet deep_other slippery_other contradictory coverage_for uncovered is_thin_water reported_kind
    reported_depth covered assessed assessing
edges =
    record {
      cover-9 = refl;
      cover-10 = refl;
      cover-25 = refl;
      cover-26 = refl;
      slush-2 = refl;
      slush-3 = refl;
      slush-4 = refl;
      cold = refl;
      milder = refl;
      water-3 = refl;
      water-4 = refl;
      water-03 = refl;
      water-04 = refl;
    }
