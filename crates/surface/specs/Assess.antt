-- "Assessing a third": from an observation to the third that is reported.
use Rattle.std.specs.Prelude.{ℕ, cond, Bool, true, false, not, eqb, leb, ltb, ℤ, pos, [], ◌∷◌}
use Rattle.std.specs.Int.Signed.{le_z}
use Rattle.text.specs.Choice.{first_failing, ◌else◌, ◌and◌}
use Rattle.surface.specs.declared.Third.{Third}
use Rattle.surface.specs.declared.Observation.{Observation}
use Rattle.surface.specs.declared.Assessment.{Assessment}
use Rattle.surface.specs.Descriptions.{not_reported, compacted_snow, standing_water, wet, dry, is_deep}
use Rattle.surface.specs.Third.{third, blank_third, is_reported, greatest_depth}
use Rattle.surface.specs.Table1.{minus, code_for}
use Rattle.text.specs.Refusals.{out_of_range, contradiction}

-- "kind (one of the fifteen)"
unfoldable pub is_kind : ℕ → Bool
is_kind k = leb compacted_snow k and leb k dry

-- "-600 to 600"
unfoldable pub is_temperature : ℤ → Bool
is_temperature t = le_z (minus 600) t and le_z t (pos 600)

-- what 15 does not refuse
unfoldable pub in_range : Observation → Bool
in_range o = is_kind o.kind and leb o.cover 100 and leb o.depth greatest_depth and is_temperature o.temperature

-- "to 3 mm", and not "above 3"
unfoldable pub is_shallow : ℕ → Bool
is_shallow depth = leb depth 3

-- "DRY with cover above 0"
unfoldable pub covered_dry : Observation → Bool
covered_dry o = eqb o.kind dry and ltb 0 o.cover

-- "WET with depth above 3"
unfoldable pub deep_wet : Observation → Bool
deep_wet o = eqb o.kind wet and not (is_shallow o.depth)

-- "depth above 0 for a kind other than WET and the four deep ones"
unfoldable pub deep_other : Observation → Bool
deep_other o = cond (eqb o.kind wet) false (cond (is_deep o.kind) false (ltb 0 o.depth))

-- "slippery for a kind other than WET"
unfoldable pub slippery_other : Observation → Bool
slippery_other o = cond (eqb o.kind wet) false o.slippery

-- what 16 refuses
unfoldable pub contradictory : Observation → Bool
contradictory o = cond (covered_dry o) true (cond (deep_wet o) true (cond (deep_other o) true (slippery_other o)))

-- "Cover 10-25 gives 25, 26-50 gives 50, 51-75 gives 75, 76-100 gives 100"
unfoldable pub coverage_for : ℕ → ℕ
coverage_for cover = cond (leb cover 25) 25 (cond (leb cover 50) 50 (cond (leb cover 75) 75 100))

-- the least cover that is reported
abbrev pub least_cover : ℕ
least_cover = 10

-- "Below 10: code 6, NR, NR, and DRY if the kind is DRY, else NR"
unfoldable pub uncovered : ℕ → Third
uncovered kind = third 6 not_reported not_reported (cond (eqb kind dry) dry not_reported)

-- STANDING WATER "to 3 mm"
unfoldable pub is_thin_water : Observation → Bool
is_thin_water o = eqb o.kind standing_water and is_shallow o.depth

-- "it is reported as WET"
unfoldable pub reported_kind : Observation → ℕ
reported_kind o = cond (is_thin_water o) wet o.kind

-- "A depth below the kind's least reported value becomes NR, and so does every depth of a kind outside the four"
unfoldable pub reported_depth : ℕ → ℕ → ℕ
reported_depth kind depth = cond (is_reported kind depth) depth not_reported

-- "From 10, by Table 1", for the kind that is reported
unfoldable pub covered : ℕ → Observation → Third
covered kind o = third (code_for kind o) (coverage_for o.cover) (reported_depth kind o.depth) kind

-- the third of an observation that is in range and does not contradict itself
unfoldable pub assessed : Observation → Third
assessed o = cond (ltb o.cover least_cover) (uncovered o.kind) (covered (reported_kind o) o)

-- an observation that is not refused
abbrev pub assessed_as : Third → Assessment
assessed_as t = record { refusal = 0; third = t }

-- "refused assessing" reports "a third of code 0 with all NR"
abbrev pub refused_assessing : ℕ → Assessment
refused_assessing number = record { refusal = number; third = blank_third }

-- "Assessing: 15, 16": out of range before contradictory, and both before all else
unfoldable pub assessing : Observation → Assessment
assessing o =
    first_failing (
    in_range o else refused_assessing out_of_range
    ∷ not (contradictory o) else refused_assessing contradiction
    ∷ []) (assessed_as (assessed o))
