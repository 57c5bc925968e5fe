-- A runway row and its rules: document 01, "A runway row".
use Rattle.std.specs.Prelude.{ℕ, List, [], ◌∷◌, Bool, ◌||◌, eqb, leb, length, get_or}
use Rattle.text.specs.Choice.{◌and◌, all}
use Rattle.runway.specs.Time.{real_time}
use Rattle.runway.specs.Runway.{valid_runway}
use Rattle.surface.specs.Descriptions.{not_reported, dry}
use Rattle.surface.specs.Third.{blank_third, is_blank_third, valid_third}
use Rattle.surface.specs.declared.Third.{Third}
use Rattle.row.specs.declared.Row.{Row}

-- "blank means all zero"
abbrev pub blank_row : Row
blank_row = record { time = 0; number = 0; side = 0; thirds = blank_third ∷ blank_third ∷ blank_third ∷ []; width = 0 }

-- the third at a place, counted from 0
abbrev pub third_of : Row → ℕ → Third
third_of r i = get_or r.thirds i blank_third

-- rows of one runway: its number and its side
unfoldable pub same_runway : Row → Row → Bool
same_runway a b = eqb a.number b.number and eqb a.side b.side

-- three thirds, and a test holds of each
unfoldable pub three_that : (Third → Bool) → List Third → Bool
three_that test ts = eqb (length ts) 3 and all test ts

-- all zero
unfoldable pub is_blank_row : Row → Bool
is_blank_row r = eqb r.time 0 and eqb r.number 0 and eqb r.side 0 and eqb r.width 0 and three_that is_blank_third r.thirds

-- "Runway: 01 to 18"
abbrev pub highest_runway : ℕ
highest_runway = 18

-- "Width: missing, or 01 to 99"
abbrev pub greatest_width : ℕ
greatest_width = 99

-- a real time, a runway, three valid thirds, and a width
unfoldable pub valid_row : Row → Bool
valid_row r =
    real_time r.time
    and valid_runway highest_runway r.number r.side
    and leb r.width greatest_width
    and three_that valid_third r.thirds

-- neither coverage nor depth
unfoldable pub is_bare : Third → Bool
is_bare t = eqb t.coverage not_reported and eqb t.depth not_reported

-- its code is 6
unfoldable pub is_six : Third → Bool
is_six t = eqb t.code 6

-- its description is DRY
unfoldable pub is_dry : Third → Bool
is_dry t = eqb t.description dry

-- "if all codes are 6 or all descriptions DRY, and all coverages and depths are NR"
unfoldable pub is_short : List Third → Bool
is_short ts = all is_bare ts and (all is_six ts || all is_dry ts)
