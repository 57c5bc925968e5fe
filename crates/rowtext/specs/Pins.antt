-- A row as it is filled, evaluated.
use Rattle.std.specs.Prelude.{ℕ, ◌≡◌, refl, List}
use Prim.Native.String.{String}
use Rattle.text.specs.Choice.{◌and◌}
use Rattle.text.specs.Piece.{bytes}
use Rattle.text.specs.Read.{skip, read_text}
use Rattle.text.specs.Out.{Out, refuse, taken}
use Rattle.text.specs.Names.{read_name}
use Rattle.text.specs.Numbers.{read_digits}
use Rattle.runway.specs.Time.{is_short_month, days_of, real_day, real_clock, real_time}
use Rattle.runway.specs.Runway.{valid_runway}
use Rattle.surface.specs.Descriptions.{is_contaminant, is_deep, dry, slush}
use Rattle.surface.specs.Third.{third, blank_third, is_coverage, valid_coverage, least_depth, is_reported, valid_depth}
use Rattle.row.specs.Row.{blank_row, is_bare, is_six, is_dry, is_short}
use Rattle.thirds.specs.declared.Group.TheVariants.{Codes}
use Rattle.thirds.specs.Groups.{measure_pieces, read_measure, read_coverage, read_description, read_third, read_group}
use Rattle.rowtext.specs.Reading.{parted, may_cover, may_lie, read_width, short}
use Rattle.rowtext.specs.Reading.{time_group, runway_group, code_group, coverage_group, depth_group, description_group, width_group}
use Rattle.rowtext.specs.Code.Filling.{with_time, with_group, full_rest, short_rest, parts, fill_group, fill_from}
use Rattle.rowtext.specs.declared.Part.{Part}
use Rattle.row.specs.declared.Row.{Row}
use Rattle.row.specs.Pins.{row, each, bare}

-- a row as it is filled: after a group, the row and what is left of the line, or the refusal and what was left where it arose
abbrev step : Part → Row → String → Out (Row × List ℕ)
step g r s = fill_group g r (bytes s)

abbrev filled : Row → String → Out (Row × List ℕ)
filled r s = taken (r, bytes s)

abbrev fault : ℕ → String → Out (Row × List ℕ)
fault n s = refuse n (bytes s)

abbrev timed : Row
timed = with_time blank_row 1120640

abbrev sixes : Row
sixes = with_group Codes blank_row (6, 6, 6)

abbrev twos : Row
twos = with_group Codes blank_row (2, 2, 2)

pub record Filling : Type 0 where
  time : step Part.Time blank_row "01120640 07L" ≡ filled timed " 07L"
  no-time : step Part.Time blank_row " 01120640 07L" ≡ fault 5 " 01120640 07L"
  runway : step Part.Runway timed " 07L 6/6/6" ≡ filled (row 1120640 7 1 (each blank_third) 0) " 6/6/6"
  no-runway : step Part.Runway timed "  19 6/6/6" ≡ fault 24 "19 6/6/6"
  codes : step Part.Codes blank_row " 6/6/6 DRY" ≡ filled sixes " DRY"
  no-codes : step Part.Codes blank_row "  6/7/6 DRY" ≡ fault 25 "6/7/6 DRY"
  short : step Part.Rest sixes " DRY/DRY/DRY 40" ≡ filled (row 0 0 0 (each (bare 6 dry)) 40) ""
  no_short : step Part.Rest twos "  NR/NR/NR 40" ≡ fault 26 "NR/NR/NR 40"
  full : step Part.Rest twos " 25/25/25 03/03/03 SLUSH/SLUSH/SLUSH 40" ≡ filled (row 0 0 0 (each (third 2 25 3 slush)) 0) " 40"
  no-coverage : step Part.Rest twos " 25/30/25 03/03/03" ≡ fault 26 "25/30/25 03/03/03"
  no-depth : step Part.Rest twos " 25/25/25  03/02/03" ≡ fault 26 "03/02/03"
  no-description : step Part.Rest twos " 25/25/25 03/03/03  SLUSH/X/SLUSH" ≡ fault 27 "SLUSH/X/SLUSH"
  forbidden-coverage : step Part.Rest twos " 25/NR/NR NR/NR/NR DRY/DRY/DRY 40" ≡ fault 26 "25/NR/NR NR/NR/NR DRY/DRY/DRY 40"
  forbidden-depth : step Part.Rest twos " 25/NR/NR 03/NR/NR ICE/ICE/ICE 40" ≡ fault 26 "03/NR/NR ICE/ICE/ICE 40"
  no_more : step Part.Width sixes "" ≡ filled sixes ""
  width : step Part.Width blank_row " 40" ≡ filled (row 0 0 0 (each blank_third) 40) ""
  no-width : step Part.Width blank_row " 40X" ≡ fault 28 "40X"
  more : step Part.Width blank_row " 40  1" ≡ fault 28 "1"
  all-groups : fill_from parts blank_row (bytes "01120640 07L 6/6/6 DRY/DRY/DRY 40") ≡ filled (row 1120640 7 1 (each (bare 6 dry)) 40) ""

pub filling : Filling
unfolding ◌and◌ skip read_text read_name read_digits measure_pieces read_measure read_coverage read_description read_third read_group read_width
    is_short_month days_of real_day real_clock real_time valid_runway is_contaminant is_deep is_coverage valid_coverage least_depth is_reported valid_depth
    is_bare is_six is_dry is_short parted may_cover may_lie short
    time_group runway_group code_group coverage_group depth_group description_group width_group full_rest short_rest fill_group fill_from
filling = record {
  time = refl;
  no-time = refl;
  runway = refl;
  no-runway = refl;
  codes = refl;
  no-codes = refl;
  short = refl;
  no_short = refl;
  full = refl;
  no-coverage = refl;
  no-depth = refl;
  no-description = refl;
  forbidden-coverage = refl;
  forbidden-depth = refl;
  no_more = refl;
  width = refl;
  no-width = refl;
  more = refl;
  all-groups = refl;
}
