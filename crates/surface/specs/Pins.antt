-- Tables that the checker evaluates: each number, word and bound of the definitions with its neighbours.
use Rattle.std.specs.Prelude.{ℕ, zero, suc, ◌≡◌, refl, List, [], ◌∷◌, map, Some, None, Ok, Err, cond, Bool, true, false, eqb, ℤ, pos, negsuc}
use Rattle.text.specs.Choice
use Rattle.text.specs.Piece.{bytes}
use Rattle.text.specs.declared.refusal.Refusal.TheVariants.{OutOfRange, Contradiction}
use Rattle.surface.specs.declared.Observation.{Observation}
use Rattle.surface.specs.declared.Assessment.{Assessment}
use Rattle.surface.specs.Descriptions
use Rattle.surface.specs.Descriptions.{not_reported, compacted_snow, dry_snow, dry_snow_on_compacted_snow, dry_snow_on_ice, frost, ice, slush, standing_water}
use Rattle.surface.specs.Descriptions.{water_on_compacted_snow, wet, wet_ice, wet_snow, wet_snow_on_compacted_snow, wet_snow_on_ice, dry, description_name}
use Rattle.surface.specs.Descriptions.{contaminant, line_of}
use Rattle.surface.specs.Third
use Rattle.surface.specs.Third.{third, blank_third, is_blank_third, least_depth, valid_third}
use Rattle.surface.specs.Table1
use Rattle.surface.specs.Table1.{table1, code, code_for, minus, agrees}
use Rattle.surface.specs.Assess
use Rattle.surface.specs.Assess.{refused_assessing, assessed_as, assessing}
use Rattle.surface.specs.Code.{observed, assessment}

-- the numbers below n, and those of them that pass a test
abbrev up_to : ℕ → List ℕ → List ℕ
up_to zero ns = ns
up_to (suc n) ns = up_to n (n ∷ ns)

abbrev keep : (ℕ → Bool) → List ℕ → List ℕ
keep test [] = []
keep test (n ∷ ns) = cond (test n) (n ∷ keep test ns) (keep test ns)

abbrev those : ℕ → (ℕ → Bool) → List ℕ
those n test = keep test (up_to n [])

abbrev any_code : List ℕ
any_code = up_to 7 []

-- each description's number, name and text
abbrev named : ℕ → ℕ × List ℕ
named d = (d, description_name d)

names :
    map named (up_to 17 [])
    ≡ (not_reported, bytes "NR")
    ∷ (compacted_snow, bytes "COMPACTED SNOW")
    ∷ (dry_snow, bytes "DRY SNOW")
    ∷ (dry_snow_on_compacted_snow, bytes "DRY SNOW ON TOP OF COMPACTED SNOW")
    ∷ (dry_snow_on_ice, bytes "DRY SNOW ON TOP OF ICE")
    ∷ (frost, bytes "FROST")
    ∷ (ice, bytes "ICE")
    ∷ (slush, bytes "SLUSH")
    ∷ (standing_water, bytes "STANDING WATER")
    ∷ (water_on_compacted_snow, bytes "WATER ON TOP OF COMPACTED SNOW")
    ∷ (wet, bytes "WET")
    ∷ (wet_ice, bytes "WET ICE")
    ∷ (wet_snow, bytes "WET SNOW")
    ∷ (wet_snow_on_compacted_snow, bytes "WET SNOW ON TOP OF COMPACTED SNOW")
    ∷ (wet_snow_on_ice, bytes "WET SNOW ON TOP OF ICE")
    ∷ (dry, bytes "DRY")
    ∷ (16, [])
    ∷ []
names = refl

-- the descriptions under which a third of these values is valid
abbrev valid_under : ℕ → ℕ → ℕ → List ℕ
valid_under code coverage depth = those 20 (λ d. valid_third (third code coverage depth d))

abbrev contaminants : List ℕ
contaminants = compacted_snow ∷ dry_snow ∷ dry_snow_on_compacted_snow ∷ dry_snow_on_ice ∷ frost ∷ ice ∷ slush ∷ standing_water ∷ water_on_compacted_snow ∷ wet ∷ wet_ice
    ∷ wet_snow ∷ wet_snow_on_compacted_snow ∷ wet_snow_on_ice ∷ []

pub record Validity : Type 0 where
  code-0 : valid_under 0 not_reported not_reported ≡ up_to 16 []
  code-6 : valid_under 6 not_reported not_reported ≡ up_to 16 []
  code-7 : valid_under 7 not_reported not_reported ≡ []
  coverage-25 : valid_under 3 25 not_reported ≡ contaminants
  coverage-100 : valid_under 3 100 not_reported ≡ contaminants
  coverages : those 130 (λ c. valid_third (third 3 c not_reported ice)) ≡ not_reported ∷ 25 ∷ 50 ∷ 75 ∷ 100 ∷ []
  depth-02 : valid_under 3 not_reported 2 ≡ []
  depth-03 : valid_under 3 not_reported 3 ≡ dry_snow ∷ slush ∷ wet_snow ∷ []
  depth-04 : valid_under 3 not_reported 4 ≡ dry_snow ∷ slush ∷ standing_water ∷ wet_snow ∷ []
  depth-999 : valid_under 3 100 999 ≡ dry_snow ∷ slush ∷ standing_water ∷ wet_snow ∷ []
  depth-1000 : valid_under 3 100 1000 ≡ []
  blank : is_blank_third blank_third ≡ true
  not-blank : map is_blank_third (third 1 0 0 0 ∷ third 0 1 0 0 ∷ third 0 0 1 0 ∷ third 0 0 0 1 ∷ []) ≡ false ∷ false ∷ false ∷ false ∷ []

pub validity : Validity
unfolding Choice.◌and◌ Descriptions.is_contaminant Descriptions.is_deep Third.is_blank_third Third.is_coverage Third.valid_coverage Third.least_depth
    Third.is_reported Third.valid_depth Third.valid_third
validity =
    record {
      code-0 = refl;
      code-6 = refl;
      code-7 = refl;
      coverage-25 = refl;
      coverage-100 = refl;
      coverages = refl;
      depth-02 = refl;
      depth-03 = refl;
      depth-04 = refl;
      depth-999 = refl;
      depth-1000 = refl;
      blank = refl;
      not-blank = refl;
    }

-- the lines of Table 3, and what has none
lines : map line_of (standing_water ∷ slush ∷ wet_snow ∷ dry_snow ∷ frost ∷ [])
    ≡ Some (contaminant standing_water 4 3) ∷ Some (contaminant slush 3 3) ∷ Some (contaminant wet_snow 3 5) ∷ Some (contaminant dry_snow 3 20) ∷ None ∷ []
lines = refl

-- the least depths that are reported, and 0 where there is no line
least_depths : map least_depth (standing_water ∷ slush ∷ wet_snow ∷ dry_snow ∷ frost ∷ []) ≡ 4 ∷ 3 ∷ 3 ∷ 3 ∷ 0 ∷ []
unfolding Third.least_depth
least_depths = refl

-- the codes of the entries of Table 1, in its order
order : map code table1 ≡ 6 ∷ 5 ∷ 5 ∷ 5 ∷ 5 ∷ 5 ∷ 4 ∷ 3 ∷ 3 ∷ 3 ∷ 3 ∷ 3 ∷ 3 ∷ 2 ∷ 2 ∷ 1 ∷ 0 ∷ 0 ∷ 0 ∷ []
unfolding table1
order = refl

-- a number below zero, and zero
signs : map minus (0 ∷ 1 ∷ []) ≡ pos 0 ∷ negsuc 0 ∷ []
signs = refl

-- a kind that has no entry
unlisted : (o : Observation) → code_for 0 o ≡ 0
unfolding Choice.◌and◌ table1 Table1.is_named Table1.is_for
unlisted o = refl

-- the codes that a description agrees with at depth NR, 03 and 04
abbrev allowed : ℕ → ℕ → List ℕ
allowed description depth = those 7 (λ code. agrees (third code not_reported depth description))

abbrev agreeing : ℕ → ℕ × (List ℕ × (List ℕ × List ℕ))
agreeing d = (d, (allowed d not_reported, (allowed d 3, allowed d 4)))

agreement :
    map agreeing (up_to 17 [])
    ≡ (not_reported, (any_code, (any_code, any_code)))
    ∷ (compacted_snow, (3 ∷ 4 ∷ [], (3 ∷ 4 ∷ [], 3 ∷ 4 ∷ [])))
    ∷ (dry_snow, (5 ∷ [], (5 ∷ [], 3 ∷ [])))
    ∷ (dry_snow_on_compacted_snow, (3 ∷ [], (3 ∷ [], 3 ∷ [])))
    ∷ (dry_snow_on_ice, (0 ∷ [], (0 ∷ [], 0 ∷ [])))
    ∷ (frost, (5 ∷ [], (5 ∷ [], 5 ∷ [])))
    ∷ (ice, (1 ∷ [], (1 ∷ [], 1 ∷ [])))
    ∷ (slush, (5 ∷ [], (5 ∷ [], 2 ∷ [])))
    ∷ (standing_water, ([], ([], 2 ∷ [])))
    ∷ (water_on_compacted_snow, (0 ∷ [], (0 ∷ [], 0 ∷ [])))
    ∷ (wet, (3 ∷ 5 ∷ [], (3 ∷ 5 ∷ [], 3 ∷ 5 ∷ [])))
    ∷ (wet_ice, (0 ∷ [], (0 ∷ [], 0 ∷ [])))
    ∷ (wet_snow, (5 ∷ [], (5 ∷ [], 3 ∷ [])))
    ∷ (wet_snow_on_compacted_snow, (3 ∷ [], (3 ∷ [], 3 ∷ [])))
    ∷ (wet_snow_on_ice, (0 ∷ [], (0 ∷ [], 0 ∷ [])))
    ∷ (dry, (6 ∷ [], (6 ∷ [], 6 ∷ [])))
    ∷ (16, ([], ([], [])))
    ∷ []
unfolding Choice.◌and◌ Table1.table1 Table1.is_named Table1.can_hold Table1.allows Table1.agrees
agreement = refl

-- what is reported of an observation: kind, cover, depth, temperature, slippery
abbrev report : ℕ → ℕ → ℕ → ℤ → Bool → Assessment
report kind cover depth temperature slippery =
    assessing (record { kind = kind; cover = cover; depth = depth; temperature = temperature; slippery = slippery })

abbrev refusal_of : ℕ → ℕ → ℕ → ℤ → Bool → ℕ
refusal_of kind cover depth temperature slippery = (report kind cover depth temperature slippery).refusal

-- each kind, fully covered, with no depth and with 4 mm
abbrev reports : ℕ → ℕ × (Assessment × Assessment)
reports kind = (kind, (report kind 100 0 (pos 0) false, report kind 100 4 (pos 0) false))

kinds :
    map reports (up_to 17 [])
    ≡ (0, (refused_assessing 15, refused_assessing 15))
    ∷ (compacted_snow, (assessed_as (third 3 100 0 compacted_snow), refused_assessing 16))
    ∷ (dry_snow, (assessed_as (third 5 100 0 dry_snow), assessed_as (third 3 100 4 dry_snow)))
    ∷ (dry_snow_on_compacted_snow, (assessed_as (third 3 100 0 dry_snow_on_compacted_snow), refused_assessing 16))
    ∷ (dry_snow_on_ice, (assessed_as (third 0 100 0 dry_snow_on_ice), refused_assessing 16))
    ∷ (frost, (assessed_as (third 5 100 0 frost), refused_assessing 16))
    ∷ (ice, (assessed_as (third 1 100 0 ice), refused_assessing 16))
    ∷ (slush, (assessed_as (third 5 100 0 slush), assessed_as (third 2 100 4 slush)))
    ∷ (standing_water, (assessed_as (third 5 100 0 wet), assessed_as (third 2 100 4 standing_water)))
    ∷ (water_on_compacted_snow, (assessed_as (third 0 100 0 water_on_compacted_snow), refused_assessing 16))
    ∷ (wet, (assessed_as (third 5 100 0 wet), refused_assessing 16))
    ∷ (wet_ice, (assessed_as (third 0 100 0 wet_ice), refused_assessing 16))
    ∷ (wet_snow, (assessed_as (third 5 100 0 wet_snow), assessed_as (third 3 100 4 wet_snow)))
    ∷ (wet_snow_on_compacted_snow, (assessed_as (third 3 100 0 wet_snow_on_compacted_snow), refused_assessing 16))
    ∷ (wet_snow_on_ice, (assessed_as (third 0 100 0 wet_snow_on_ice), refused_assessing 16))
    ∷ (dry, (refused_assessing 16, refused_assessing 16))
    ∷ (16, (refused_assessing 15, refused_assessing 15))
    ∷ []
unfolding Choice.◌and◌ Descriptions.is_deep Third.least_depth Third.is_reported Table1.table1 Table1.is_named Table1.holds Table1.is_for
    Assess.is_kind Assess.is_temperature Assess.in_range Assess.is_shallow Assess.covered_dry Assess.deep_wet Assess.deep_other Assess.slippery_other
    Assess.contradictory Assess.coverage_for Assess.uncovered Assess.is_thin_water Assess.reported_kind Assess.reported_depth Assess.covered Assess.assessed
    Assess.assessing
kinds = refl

pub record Assessing : Type 0 where
  -- the ranges
  covers : map (λ c. refusal_of ice c 0 (pos 0) false) (0 ∷ 100 ∷ 101 ∷ []) ≡ 0 ∷ 0 ∷ 15 ∷ []
  depths : map (λ d. refusal_of slush 100 d (pos 0) false) (0 ∷ 999 ∷ 1000 ∷ []) ≡ 0 ∷ 0 ∷ 15 ∷ []
  temperatures : map (λ t. refusal_of ice 100 0 t false) (minus 601 ∷ minus 600 ∷ pos 600 ∷ pos 601 ∷ []) ≡ 15 ∷ 0 ∷ 0 ∷ 15 ∷ []
  -- the contradictions, each with its neighbour
  covered-dry : map (λ c. refusal_of dry c 0 (pos 0) false) (0 ∷ 1 ∷ []) ≡ 0 ∷ 16 ∷ []
  deep-wet : map (λ d. report wet 100 d (pos 0) false) (3 ∷ 4 ∷ []) ≡ assessed_as (third 5 100 0 wet) ∷ refused_assessing 16 ∷ []
  with-depth : keep (λ k. eqb (refusal_of k 100 1 (pos 0) false) 0) (up_to 17 []) ≡ dry_snow ∷ slush ∷ standing_water ∷ wet ∷ wet_snow ∷ []
  slippery : keep (λ k. eqb (refusal_of k 0 0 (pos 0) true) 0) (up_to 17 []) ≡ wet ∷ []
  slippery-wet : report wet 100 0 (pos 0) true ≡ assessed_as (third 3 100 0 wet)
  -- 15 before 16, and both before cover below 10
  dry-over : refusal_of dry 101 0 (pos 0) false ≡ 15
  ice-deep-hot : refusal_of ice 0 1 (pos 601) true ≡ 15
  ice-deep : refusal_of ice 9 1 (pos 0) false ≡ 16
  -- Cover
  coverages : map (λ c. (report frost c 0 (pos 0) false).third.coverage) (10 ∷ 25 ∷ 26 ∷ 50 ∷ 51 ∷ 75 ∷ 76 ∷ 100 ∷ [])
      ≡ 25 ∷ 25 ∷ 50 ∷ 50 ∷ 75 ∷ 75 ∷ 100 ∷ 100 ∷ []
  uncovered-dry : report dry 0 0 (pos 0) false ≡ assessed_as (third 6 0 0 dry)
  uncovered-slush : report slush 9 50 (pos 0) false ≡ assessed_as (third 6 0 0 not_reported)
  -- the least depths
  dry-snow : map (λ d. (report dry_snow 100 d (pos 0) false).third) (2 ∷ 3 ∷ []) ≡ third 5 100 0 dry_snow ∷ third 5 100 3 dry_snow ∷ []
  wet-snow : map (λ d. (report wet_snow 100 d (pos 0) false).third) (2 ∷ 3 ∷ []) ≡ third 5 100 0 wet_snow ∷ third 5 100 3 wet_snow ∷ []

pub assessments : Assessing
unfolding Choice.◌and◌ Descriptions.is_deep Third.least_depth Third.is_reported Table1.table1 Table1.is_named Table1.holds Table1.is_for
    Assess.is_kind Assess.is_temperature Assess.in_range Assess.is_shallow Assess.covered_dry Assess.deep_wet Assess.deep_other Assess.slippery_other
    Assess.contradictory Assess.coverage_for Assess.uncovered Assess.is_thin_water Assess.reported_kind Assess.reported_depth Assess.covered Assess.assessed
    Assess.assessing
assessments =
    record {
      covers = refl;
      depths = refl;
      temperatures = refl;
      covered-dry = refl;
      deep-wet = refl;
      with-depth = refl;
      slippery = refl;
      slippery-wet = refl;
      dry-over = refl;
      ice-deep-hot = refl;
      ice-deep = refl;
      coverages = refl;
      uncovered-dry = refl;
      uncovered-slush = refl;
      dry-snow = refl;
      wet-snow = refl;
    }

-- what the code has of its own: an observation in range, and a third or a refusal
pub record Coded : Type 0 where
  seen : observed (record { kind = ice; cover = 1; depth = 2; temperature = minus 3; slippery = true })
      ≡ record { kind = ice; cover = 1; depth = 2; temperature = minus 3; slippery = true }
  answers : map assessment (Ok (third 5 25 0 frost) ∷ Err OutOfRange ∷ Err Contradiction ∷ [])
      ≡ assessed_as (third 5 25 0 frost) ∷ refused_assessing 15 ∷ refused_assessing 16 ∷ []

pub coded : Coded
coded = record { seen = refl; answers = refl }
