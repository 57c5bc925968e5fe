-- A third of a runway, and what it may hold.
use Rattle.std.specs.Prelude.{ℕ, [], ◌∷◌, unwrap_or, cond, Bool, true, eqb, leb}
use Rattle.std.specs.Option.{option_map}
use Rattle.text.specs.Choice.{◌and◌, member}
use Rattle.surface.specs.declared.Third.{Third}
use Rattle.surface.specs.Descriptions.{not_reported, is_description, is_contaminant, line_of, is_deep}

-- a third of a code, a coverage, a depth and a description
abbrev pub third : ℕ → ℕ → ℕ → ℕ → Third
third code coverage depth description = record { code = code; coverage = coverage; depth = depth; description = description }

-- "a third of code 0 with all NR"
abbrev pub blank_third : Third
blank_third = third 0 not_reported not_reported not_reported

-- all zero
unfoldable pub is_blank_third : Third → Bool
is_blank_third t = eqb t.code 0 and eqb t.coverage not_reported and eqb t.depth not_reported and eqb t.description not_reported

-- "one digit 0 to 6"
abbrev pub is_code : ℕ → Bool
is_code c = leb c 6

-- the numbers of "NR, 25, 50, 75, 100"
unfoldable pub is_coverage : ℕ → Bool
is_coverage c = member (25 ∷ 50 ∷ 75 ∷ 100 ∷ []) c

-- "A number only under a contaminant"
unfoldable pub valid_coverage : Third → Bool
valid_coverage t = cond (eqb t.coverage not_reported) true (is_coverage t.coverage and is_contaminant t.description)

-- "STANDING WATER (from 04), SLUSH, WET SNOW and DRY SNOW (each from 03)"
unfoldable pub least_depth : ℕ → ℕ
least_depth d = unwrap_or (option_map (λ l. l.1) (line_of d)) 0

-- a depth that is reported of a surface: "only under" the four deep ones, and from the least value on
unfoldable pub is_reported : ℕ → ℕ → Bool
is_reported description depth = is_deep description and leb (least_depth description) depth

-- "03 to 999"
abbrev pub greatest_depth : ℕ
greatest_depth = 999

-- "NR or 03 to 999", a number only where it is reported
unfoldable pub valid_depth : Third → Bool
valid_depth t = cond (eqb t.depth not_reported) true (is_reported t.description t.depth and leb t.depth greatest_depth)

-- what a row's third may hold
unfoldable pub valid_third : Third → Bool
valid_third t = is_code t.code and is_description t.description and valid_coverage t and valid_depth t
