-- The pairs, slips and decisions of documents 01 and 02 that concern rows, evaluated.
use Rattle.std.specs.Prelude.{ℕ, ◌≡◌, refl, List, [], ◌∷◌, ◌++◌, map, true, false}
use Prim.Native.String.{String}
use Rattle.text.specs.Choice.{◌and◌}
use Rattle.text.specs.Piece.{canonical, bytes, spell, nr_text}
use Rattle.text.specs.Read.{skip, read_text}
use Rattle.text.specs.Names.{read_name}
use Rattle.text.specs.Numbers.{digits, read_digits}
use Rattle.runway.specs.Time.{is_short_month, days_of, real_day, real_clock, real_time}
use Rattle.runway.specs.Runway.{valid_runway}
use Rattle.surface.specs.Descriptions.{is_contaminant, is_deep, not_reported, dry_snow, dry_snow_on_ice, frost, ice, slush, standing_water, wet, dry}
use Rattle.surface.specs.Third.{third, is_coverage, valid_coverage, least_depth, is_reported, valid_depth, valid_third}
use Rattle.surface.specs.Edges as Surface
use Rattle.surface.specs.declared.Third.{Third}
use Rattle.thirds.specs.Groups.{measure_pieces, read_measure, read_coverage, read_description, third_pieces, read_third, read_group}
use Rattle.thirds.specs.declared.Group.TheVariants.{Coverages, Depths}
use Rattle.row.specs.Row.{blank_row, three_that, valid_row, is_bare, is_six, is_dry, is_short}
use Rattle.rowtext.specs.Text.{group_of, middle_pieces, width_pieces, row_pieces}
use Rattle.rowtext.specs.Reading.{parted, may_cover, may_lie, read_width}
use Rattle.rowtext.specs.Reading.{time_group, runway_group, code_group, coverage_group, depth_group, description_group, width_group}
use Rattle.rowtext.specs.Reading.{short, find_row, row_answer}
use Rattle.rowtext.specs.Writing.{row_text, WroteRow}
use Rattle.row.specs.declared.Row.{Row}
use Rattle.rowtext.specs.declared.RowRead.{RowRead}

-- the answer to a line, to one that goes on behind a time and a runway, and to one that goes on behind its depths
abbrev answer : List ℕ → RowRead
answer m = row_answer m (find_row m)

abbrev line : String → RowRead
line s = answer (bytes s)

abbrev given : String → RowRead
given s = answer (bytes "01120640 07 " ++ bytes s)

abbrev deep : String → RowRead
deep s = answer (bytes "01120640 07 5/5/5 25/NR/NR NR/NR/NR " ++ bytes s)

abbrev row : List Third → ℕ → Row
row ts width = record { time = 1120640; number = 7; side = 0; thirds = ts; width = width }

abbrev taken : Row → RowRead
taken r = record { refusal = 0; place = 0; row = r }

-- refused by a number at a place
abbrev refused : ℕ → ℕ → RowRead
refused n at = record { refusal = n; place = at; row = blank_row }

-- a third with neither coverage nor depth, and three thirds alike
abbrev bare : ℕ → ℕ → Third
bare code description = third code not_reported not_reported description

abbrev each : Third → List Third
each t = t ∷ t ∷ t ∷ []

pub record Edges : Type 0 where
  -- those of the assessor
  assessing : Surface.Edges
  -- "02290000* a real time, 02300000* not"
  leap-day : real_time 2290000 ≡ true
  no-day : real_time 2300000 ≡ false
  leap-row : line "02290000 07 6/6/6 DRY/DRY/DRY" ≡ taken (record { time = 2290000; number = 7; side = 0; thirds = each (bare 6 dry); width = 0 })
  no-day-row : line "02300000 07 6/6/6 DRY/DRY/DRY" ≡ refused 5 0
  -- "Depth 099 refused, 99 and 100 taken under SLUSH"
  depth-099 : given "2/2/2 100/100/100 099/100/100 SLUSH/SLUSH/SLUSH" ≡ refused 26 30
  depth-99 : given "2/2/2 100/100/100 99/99/99 SLUSH/SLUSH/SLUSH" ≡ taken (row (each (third 2 100 99 slush)) 0)
  depth-100 : given "2/2/2 100/100/100 100/100/100 SLUSH/SLUSH/SLUSH" ≡ taken (row (each (third 2 100 100 slush)) 0)
  -- "Treating a depth of 03 as legal for standing water"
  water-03 : given "2/2/2 25/25/25 04/03/04 STANDING WATER/STANDING WATER/STANDING WATER" ≡ refused 26 27
  water-04 : given "2/2/2 25/25/25 04/04/04 STANDING WATER/STANDING WATER/STANDING WATER" ≡ taken (row (each (third 2 25 4 standing_water)) 0)
  -- "Taking the three NR of a short row as coverage"
  three-nr : given "6/6/6 NR/NR/NR" ≡ taken (row (each (bare 6 not_reported)) 0)
  nine-nr : given "6/6/6 NR/NR/NR NR/NR/NR NR/NR/NR" ≡ taken (row (each (bare 6 not_reported)) 0)
  six-nr : given "6/6/6 NR/NR/NR NR/NR/NR" ≡ refused 27 35
  nr-of-five : given "5/5/5 NR/NR/NR" ≡ refused 26 18
  nr-written : given "5/5/5 NR/NR/NR NR/NR/NR NR/NR/NR" ≡ taken (row (each (bare 5 not_reported)) 0)
  -- "Matching DRY before DRY SNOW ON TOP OF ICE and stopping there"
  dry-snow-on-ice : given "6/6/6 DRY/DRY/DRY SNOW ON TOP OF ICE" ≡ taken (row (bare 6 dry ∷ bare 6 dry ∷ bare 6 dry_snow_on_ice ∷ []) 0)
  -- a short row: "all codes are 6 or all descriptions DRY", whatever the others are (decision 14)
  all-six : given "6/6/6 FROST/ICE/WET" ≡ taken (row (bare 6 frost ∷ bare 6 ice ∷ bare 6 wet ∷ []) 0)
  all-dry : given "0/1/2 DRY/DRY/DRY" ≡ taken (row (bare 0 dry ∷ bare 1 dry ∷ bare 2 dry ∷ []) 0)
  neither : given "6/6/5 DRY/DRY/NR" ≡ refused 26 18
  with-depth : given "6/6/6 03/NR/NR SLUSH/DRY/DRY" ≡ refused 26 18
  -- no number is ever required, and WET takes a coverage (decision 15)
  no-coverage : given "5/5/5 NR/25/100 03/NR/NR SLUSH/FROST/WET"
      ≡ taken (row (third 5 not_reported 3 slush ∷ third 5 25 not_reported frost ∷ third 5 100 not_reported wet ∷ []) 0)
  coverage-under-dry : given "5/5/5 25/NR/NR NR/NR/NR DRY/ICE/ICE" ≡ refused 26 18
  coverage-under-nr : given "5/5/5 25/NR/NR NR/NR/NR NR/ICE/ICE" ≡ refused 26 18
  depth-under-frost : given "5/5/5 NR/NR/NR 03/NR/NR FROST/ICE/ICE" ≡ refused 26 27
  -- widths (decision 16)
  width-of-nr : given "6/6/6 NR/NR/NR 30" ≡ taken (row (each (bare 6 not_reported)) 30)
  width-01 : given "6/6/6 DRY/DRY/DRY 01" ≡ taken (row (each (bare 6 dry)) 1)
  width-99 : given "6/6/6 DRY/DRY/DRY 99" ≡ taken (row (each (bare 6 dry)) 99)
  width-00 : given "6/6/6 DRY/DRY/DRY 00" ≡ refused 26 18
  width-5 : given "6/6/6 DRY/DRY/DRY 5" ≡ refused 26 18
  width-100 : given "6/6/6 DRY/DRY/DRY 100" ≡ refused 26 18
  width-nr : given "6/6/6 DRY/DRY/DRY NR" ≡ refused 26 18
  -- several spaces between and within groups (freedom (b), decision 17), and no other byte for one
  spaced : given "  6/6/6   NR/NR/NR  NR/NR/NR DRY  SNOW  ON TOP OF   ICE/DRY/DRY   40" ≡ taken (row (bare 6 dry_snow_on_ice ∷ bare 6 dry ∷ bare 6 dry ∷ []) 40)
  beside-slash : given "6/6/6 DRY /DRY/DRY" ≡ refused 26 18
  behind-slash : given "6/ 6/6 DRY/DRY/DRY" ≡ refused 25 12
  at-start : line " 01120640 07 6/6/6 DRY/DRY/DRY" ≡ refused 5 0
  at-end : given "6/6/6 DRY/DRY/DRY " ≡ refused 26 18
  without-space : given "6/6/6 DRYSNOW/DRY/DRY" ≡ refused 26 18
  no_gap : line "0112064007 6/6/6 DRY/DRY/DRY" ≡ refused 5 0
  closed : given "6/6/6 DRY/DRY/DRY)" ≡ refused 26 18
  -- codes, "one digit 0 to 6, never NR"
  code-7 : given "6/6/7 25/25/25 NR/NR/NR ICE/ICE/ICE" ≡ refused 25 12
  code-nr : given "NR/6/6 DRY/DRY/DRY" ≡ refused 25 12
  -- "Coverage: NR, 25, 50, 75, 100"
  coverage-words : given "1/1/1 50/75/100 NR/NR/NR ICE/ICE/ICE"
      ≡ taken (row (third 1 50 not_reported ice ∷ third 1 75 not_reported ice ∷ third 1 100 not_reported ice ∷ []) 0)
  coverage-30 : given "1/1/1 30/75/100 NR/NR/NR ICE/ICE/ICE" ≡ refused 26 18
  coverage-025 : given "1/1/1 025/75/100 NR/NR/NR ICE/ICE/ICE" ≡ refused 26 18
  -- "Runway: 01 to 18, then nothing, L, C or R"
  side : line "01120640 18C 6/6/6 DRY/DRY/DRY" ≡ taken (record { time = 1120640; number = 18; side = 2; thirds = each (bare 6 dry); width = 0 })
  runway-19 : line "01120640 19 6/6/6 DRY/DRY/DRY" ≡ refused 24 9
  runway-7 : line "01120640 7 6/6/6 DRY/DRY/DRY" ≡ refused 24 9
  empty : line "" ≡ refused 5 0

pub edges : Edges
unfolding ◌and◌ skip read_text read_name read_digits is_short_month days_of real_day real_clock real_time valid_runway is_contaminant is_deep is_coverage valid_coverage
    least_depth is_reported valid_depth read_measure read_coverage read_description read_third read_group is_bare is_six is_dry is_short
    parted may_cover may_lie read_width time_group runway_group code_group coverage_group depth_group description_group width_group short find_row
edges = record {
  assessing = Surface.edges;
  leap-day = refl;
  no-day = refl;
  leap-row = refl;
  no-day-row = refl;
  depth-099 = refl;
  depth-99 = refl;
  depth-100 = refl;
  water-03 = refl;
  water-04 = refl;
  three-nr = refl;
  nine-nr = refl;
  six-nr = refl;
  nr-of-five = refl;
  nr-written = refl;
  dry-snow-on-ice = refl;
  all-six = refl;
  all-dry = refl;
  neither = refl;
  with-depth = refl;
  no-coverage = refl;
  coverage-under-dry = refl;
  coverage-under-nr = refl;
  depth-under-frost = refl;
  width-of-nr = refl;
  width-01 = refl;
  width-99 = refl;
  width-00 = refl;
  width-5 = refl;
  width-100 = refl;
  width-nr = refl;
  spaced = refl;
  beside-slash = refl;
  behind-slash = refl;
  at-start = refl;
  at-end = refl;
  without-space = refl;
  no_gap = refl;
  closed = refl;
  code-7 = refl;
  code-nr = refl;
  coverage-words = refl;
  coverage-30 = refl;
  coverage-025 = refl;
  side = refl;
  runway-19 = refl;
  runway-7 = refl;
  empty = refl;
}

-- each of these lines is refused, by this number at this place
abbrev Refused : (String → RowRead) → List (String × ℕ × ℕ) → Type 0
Refused reading lines = map (λ l. reading l.0) lines ≡ map (λ l. refused l.1 l.2) lines

-- "for a row the first byte of the group at fault"; document 02, request 2
pub record Places : Type 0 where
  -- the row whose places the others count by: time 0, runway 9, codes 12, coverages 18, depths 27, descriptions 36, width 54
  whole : deep "FROST/FROST/FROST 30" ≡ taken (row (third 5 25 not_reported frost ∷ bare 5 frost ∷ bare 5 frost ∷ []) 30)
  -- "leftmost first"
  leftmost : Refused line (
      ("0112064X 19 7/7/7 30/NR/NR 02/NR/NR X 00", 5, 0)
      ∷ ("01120640 19 7/7/7 30/NR/NR 02/NR/NR X 00", 24, 9)
      ∷ ("01120640 07 7/7/7 30/NR/NR 02/NR/NR X 00", 25, 12)
      ∷ ("01120640 07 5/5/5 30/NR/NR 02/NR/NR X 00", 26, 18)
      ∷ ("01120640 07 5/5/5 25/NR/NR 02/NR/NR X 00", 26, 27)
      ∷ ("01120640 07 5/5/5 25/NR/NR NR/NR/NR X 00", 27, 36)
      ∷ ("01120640 07 5/5/5 25/NR/NR NR/NR/NR ICE/ICE/ICE 00", 28, 48)
      ∷ [])
  -- what is glued to a group belongs to it, and a tab parts nothing
  glued : Refused line (
      ("01120640X 07 6/6/6 DRY/DRY/DRY", 5, 0)
      ∷ ("011206400 07 6/6/6 DRY/DRY/DRY", 5, 0)
      ∷ ("0112064007 6/6/6 DRY/DRY/DRY", 5, 0)
      ∷ ("01120640\t07 6/6/6 DRY/DRY/DRY", 5, 0)
      ∷ ("01120640 07X 6/6/6 DRY/DRY/DRY", 24, 9)
      ∷ ("01120640 07LX 6/6/6 DRY/DRY/DRY", 24, 9)
      ∷ ("01120640 07\t6/6/6 DRY/DRY/DRY", 24, 9)
      ∷ [])
  glued-thirds : Refused given (
      ("6/6/6X DRY/DRY/DRY", 25, 12)
      ∷ ("6/6/6/6 DRY/DRY/DRY", 25, 12)
      ∷ ("6/ 6/6 DRY/DRY/DRY", 25, 12)
      ∷ ("5/5/5 25/NR/NRX NR/NR/NR FROST/FROST/FROST", 26, 18)
      ∷ ("5/5/5 25/NR/NR NR/NR/NRFROST/FROST/FROST", 26, 27)
      ∷ [])
  -- a group of thirds is one group
  one-group : Refused given (
      ("7/6/6 DRY/DRY/DRY", 25, 12)
      ∷ ("6/7/6 DRY/DRY/DRY", 25, 12)
      ∷ ("6/6/7 DRY/DRY/DRY", 25, 12)
      ∷ ("5/5/5 30/NR/NR NR/NR/NR ICE/ICE/ICE", 26, 18)
      ∷ ("5/5/5 NR/30/NR NR/NR/NR ICE/ICE/ICE", 26, 18)
      ∷ ("5/5/5 NR/NR/30 NR/NR/NR ICE/ICE/ICE", 26, 18)
      ∷ ("5/5/5 25/NR/NR 02/NR/NR SLUSH/SLUSH/SLUSH", 26, 27)
      ∷ ("5/5/5 25/NR/NR NR/02/NR SLUSH/SLUSH/SLUSH", 26, 27)
      ∷ ("5/5/5 25/NR/NR NR/NR/02 SLUSH/SLUSH/SLUSH", 26, 27)
      ∷ [])
  -- spaces before the time, a row of spaces alone, an empty row
  no-time : Refused line ((" 01120640 07 6/6/6 DRY/DRY/DRY", 5, 0) ∷ ("   ", 5, 0) ∷ ("", 5, 0) ∷ ("0112064 07 6/6/6 DRY/DRY/DRY", 5, 0) ∷ [])
  -- several spaces before a group
  spaces : Refused line (
      ("01120640   19 6/6/6 DRY/DRY/DRY", 24, 11)
      ∷ ("01120640 07   7/6/6 DRY/DRY/DRY", 25, 14)
      ∷ ("01120640 07 5/5/5   30/NR/NR NR/NR/NR ICE/ICE/ICE", 26, 20)
      ∷ ("01120640 07 5/5/5 25/NR/NR  02/NR/NR ICE/ICE/ICE", 26, 28)
      ∷ ("01120640 07 5/5/5 25/NR/NR NR/NR/NR  X", 27, 37)
      ∷ ("01120640 07 5/5/5 25/NR/NR NR/NR/NR ICE/ICE/ICE   5", 28, 50)
      ∷ [])
  -- "for a missing group its row's end"
  missing : Refused line (("01120640", 24, 8) ∷ ("01120640 ", 24, 9) ∷ ("01120640 07", 25, 11) ∷ ("01120640 07  ", 25, 13) ∷ [])
  missing-thirds : Refused given (
      ("6/6/6", 26, 17)
      ∷ ("6/6/6 ", 26, 18)
      ∷ ("5/5/5 25/NR/NR", 26, 26)
      ∷ ("5/5/5 25/NR/NR ", 26, 27)
      ∷ ("6/6/6 NR/NR/NR NR/NR/NR", 27, 35)
      ∷ ("6/6/6 NR/NR/NR NR/NR/NR ", 27, 36)
      ∷ [])
  -- something in a group's place is no missing group
  another : Refused line (
      ("01120640 6/6/6 DRY/DRY/DRY", 24, 9)
      ∷ ("01120640 07 5/5/5 03/NR/NR SLUSH/WET/WET", 26, 18)
      ∷ ("01120640 07 6/6/6 NR/NR/NR DRY/DRY/DRY", 26, 27)
      ∷ ("01120640 07 6/6/6 NR/NR/NR NR/NR/NR 30", 27, 36)
      ∷ [])
  -- "nothing but a width after them": else what follows the codes is judged as a coverage
  not_short : Refused given (
      ("6/6/6 DRY/DRY/DRY 00", 26, 18)
      ∷ ("6/6/6 DRY/DRY/DRY 5", 26, 18)
      ∷ ("6/6/6 DRY/DRY/DRY 100", 26, 18)
      ∷ ("6/6/6 DRY/DRY/DRY ", 26, 18)
      ∷ ("6/6/6 DRY/DRY/DRYX", 26, 18)
      ∷ ("6/6/6 DRY/DRY/DRY 30 X", 26, 18)
      ∷ ("6/6/6 NR/NR/NR 00", 26, 27)
      ∷ ("6/6/6 NR/NR/NR 100", 26, 27)
      ∷ ("6/6/6 NR/NR/NR ", 26, 27)
      ∷ ("6/6/6 DYR/DRY/DRY", 26, 18)
      ∷ [])
  -- "a short row not allowed, at its descriptions"
  not-allowed : Refused given (("5/5/5 NR/NR/NR", 26, 18) ∷ ("5/5/5 NR/NR/NR 30", 26, 18) ∷ ("6/6/5 DRY/DRY/NR", 26, 18) ∷ ("6/6/5   DRY/DRY/NR", 26, 20) ∷ [])
  -- what is no coverage or depth at all comes before the descriptions
  no_number : Refused given (
      ("5/5/5 30/NR/NR NR/NR/NR X", 26, 18)
      ∷ ("5/5/5 00/NR/NR NR/NR/NR X", 26, 18)
      ∷ ("5/5/5 1000/NR/NR NR/NR/NR X", 26, 18)
      ∷ ("5/5/5 25/NR/NR 00/NR/NR X", 26, 27)
      ∷ ("5/5/5 25/NR/NR 02/NR/NR SLUSH/ICE/X", 26, 27)
      ∷ ("5/5/5 25/NR/NR 099/NR/NR X", 26, 27)
      ∷ ("5/5/5 25/NR/NR 1000/NR/NR X", 26, 27)
      ∷ ("5/5/5 25/NR/NR NR/NR/1000 X", 26, 27)
      ∷ [])
  -- "a number its description forbids is 26, judged once all three are read": after 27 and before 28, the coverages first
  forbidden : Refused given (
      ("5/5/5 25/NR/NR 03/NR/NR STANDING WATER/ICE/X", 27, 36)
      ∷ ("5/5/5 25/NR/NR NR/NR/NR DRY/FROST/X", 27, 36)
      ∷ ("5/5/5 25/NR/NR NR/NR/NR DRY/FROST/FROST 00", 26, 18)
      ∷ ("5/5/5 NR/NR/25 04/NR/NR ICE/ICE/DRY", 26, 18)
      ∷ ("5/5/5 NR/NR/NR 04/NR/NR ICE/ICE/DRY", 26, 27)
      ∷ ("5/5/5 25/NR/NR 03/NR/NR STANDING WATER/ICE/ICE 00", 26, 27)
      ∷ ("5/5/5 25/NR/NR 04/NR/NR STANDING WATER/ICE/ICE 00", 28, 59)
      ∷ [])
  -- "The longest description that stands there is taken, and what follows the third is 28"
  longest : Refused deep (
      ("FROST/FROST/FROSTX 30", 28, 53)
      ∷ ("FROST/FROST/FROST\t30", 28, 53)
      ∷ ("FROST/FROST/ICEBERG", 28, 51)
      ∷ ("FROST/FROST/DRY SNOW ON TOP OF X", 28, 57)
      ∷ ("FROST/FROST/FROST ", 28, 54)
      ∷ ("FROSTX/FROST/FROST", 27, 36)
      ∷ ("FROST/ICEBERG/FROST", 27, 36)
      ∷ ("FROST/DRY SNOW ON TOP OF X/FROST", 27, 36)
      ∷ ("FROST/FROST/X", 27, 36)
      ∷ ("FROST/FROST", 27, 36)
      ∷ [])
  -- "28 width or what follows"
  width : Refused deep (
      ("FROST/FROST/FROST 00", 28, 54)
      ∷ ("FROST/FROST/FROST 5", 28, 54)
      ∷ ("FROST/FROST/FROST 100", 28, 54)
      ∷ ("FROST/FROST/FROST 30X", 28, 54)
      ∷ ("FROST/FROST/FROST 30 X", 28, 57)
      ∷ ("FROST/FROST/FROST 30 ", 28, 57)
      ∷ ("FROST/FROST/FROST 30 40", 28, 57)
      ∷ [])

pub places : Places
unfolding ◌and◌ skip read_text read_name read_digits is_short_month days_of real_day real_clock real_time valid_runway is_contaminant is_deep is_coverage valid_coverage
    least_depth is_reported valid_depth read_measure read_coverage read_description read_third read_group is_bare is_six is_dry is_short
    parted may_cover may_lie read_width time_group runway_group code_group coverage_group depth_group description_group width_group short find_row
places = record {
  whole = refl;
  leftmost = refl;
  glued = refl;
  glued-thirds = refl;
  one-group = refl;
  no-time = refl;
  spaces = refl;
  missing = refl;
  missing-thirds = refl;
  another = refl;
  not_short = refl;
  not-allowed = refl;
  no_number = refl;
  forbidden = refl;
  longest = refl;
  width = refl;
}

-- the texts that are written: in full, and short exactly where the short row applies
pub record Written : Type 0 where
  full : row_text (row (third 3 75 12 dry_snow ∷ third 5 25 not_reported frost ∷ bare 5 dry ∷ []) 0)
      ≡ bytes "01120640 07 3/5/5 75/25/NR 12/NR/NR DRY SNOW/FROST/DRY"
  short : row_text (record { time = 1120640; number = 7; side = 3; thirds = each (bare 6 dry); width = 40 }) ≡ bytes "01120640 07R 6/6/6 DRY/DRY/DRY 40"
  short-nr : row_text (row (each (bare 6 not_reported)) 5) ≡ bytes "01120640 07 6/6/6 NR/NR/NR 05"
  not_short : row_text (row (bare 6 dry ∷ bare 6 dry ∷ bare 5 not_reported ∷ []) 0) ≡ bytes "01120640 07 6/6/5 NR/NR/NR NR/NR/NR DRY/DRY/NR"
  deep : row_text (row (third 2 100 100 slush ∷ third 2 100 99 slush ∷ third 2 100 4 standing_water ∷ []) 0)
      ≡ bytes "01120640 07 2/2/2 100/100/100 100/99/04 SLUSH/SLUSH/STANDING WATER"
  -- a row that is not valid has none, though its groups have bytes
  invalid : row_text (row (each (bare 7 dry)) 0) ≡ []
  unjudged : canonical (row_pieces (row (each (bare 7 dry)) 0)) ≡ bytes "01120640 07 7/7/7 DRY/DRY/DRY"
  -- the two groups that freedom (d) writes are those of a row with neither coverage nor depth
  left_out : group_of Coverages (row (each (bare 6 dry)) 0) ++ group_of Depths (row (each (bare 6 dry)) 0) ≡ nr_text

pub written : Written
unfolding ◌and◌ spell digits is_short_month days_of real_day real_clock real_time valid_runway is_contaminant is_deep is_coverage valid_coverage least_depth is_reported
    valid_depth valid_third measure_pieces third_pieces three_that valid_row is_bare is_six is_dry is_short middle_pieces width_pieces row_pieces row_text
written = record { full = refl; short = refl; short-nr = refl; not_short = refl; deep = refl; invalid = refl; unjudged = refl; left_out = refl }

-- a text in a buffer that is longer than it, as long, and a byte shorter
pub record Fitted : Type 0 where
  longer : WroteRow (bytes "AB") (bytes "xyz") (bytes "ABz") 2
  exact : WroteRow (bytes "AB") (bytes "xy") (bytes "AB") 2
  shorter : WroteRow (bytes "AB") (bytes "x") (bytes "x") 0

pub fitted : Fitted
fitted = record {
  longer = record { filled = refl; holds = refl };
  exact = record { filled = refl; holds = refl };
  shorter =
      record { filled = refl; holds = refl };
}
