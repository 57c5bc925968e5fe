-- The values of the rules, evaluated: a changed numeral or order fails here.
use Rattle.std.specs.Prelude.{ℕ, ◌≡◌, refl, List, [], ◌∷◌, ◌++◌, map, true, false, length}
use Rattle.text.specs.Choice.{◌and◌}
use Rattle.radio.specs.Outcome.{taken, refusal}
use Rattle.runway.specs.Time.{is_short_month, days_of, real_day, real_clock, real_time}
use Rattle.runway.specs.Runway.{valid_runway}
use Rattle.surface.specs.declared.Third.{Third}
use Rattle.surface.specs.Descriptions.{is_contaminant, is_deep}
use Rattle.surface.specs.Third.{third, is_coverage, valid_coverage, least_depth, is_reported, valid_depth, valid_third}
use Rattle.row.specs.declared.Row.{Row}
use Rattle.row.specs.Row.{three_that, valid_row}
use Rattle.body.specs.Rows.{same_runway, is_among, new_runways}
use Rattle.radio.specs.Number.{part, groups, number_bytes, read_groups, read_number}
use Rattle.radio.specs.Minutes.{days_in, day_number, minute_number, minutes_of, date_from, clock_of, time_of, year_minutes}
use Rattle.radio.specs.declared.Field.TheVariants.{Minutes, Runway, Width, Code, Coverage, Depth, Description}
use Rattle.radio.specs.Fields.{may_be, read_fields, row_numbers}
use Rattle.radio.specs.Record.{each, list_numbers, radio_record, sendable, read_rows, read_record, write_record}
use Rattle.radio.specs.Laws.Size.{longest}

-- "so 300 is AC 02"
pub record Numbers : Type 0 where
  pub three-hundred : number_bytes 300 ≡ 0xAC ∷ 0x02 ∷ []
  pub edges : map number_bytes (0 ∷ 127 ∷ 128 ∷ 16383 ∷ 16384 ∷ 2097151 ∷ []) ≡
      (0 ∷ []) ∷ (127 ∷ []) ∷ (0x80 ∷ 1 ∷ []) ∷ (0xFF ∷ 0x7F ∷ []) ∷ (0x80 ∷ 0x80 ∷ 1 ∷ []) ∷ (0xFF ∷ 0xFF ∷ 0x7F ∷ []) ∷ []
  pub reads : read_number (0xAC ∷ 0x02 ∷ 7 ∷ []) ≡ taken (part 300 (7 ∷ []))
  -- "30 record cut short"
  pub cut : map (λ m. refusal (read_number m)) ([] ∷ (0x80 ∷ []) ∷ (0x80 ∷ 0x80 ∷ []) ∷ []) ≡ 30 ∷ 30 ∷ 30 ∷ []
  -- "31 a number with a last group of zero after another, or a third group with its high bit set"
  pub form : map (λ m. refusal (read_number m)) ((0x80 ∷ 0 ∷ []) ∷ (0x80 ∷ 0x80 ∷ 0 ∷ []) ∷ (0x80 ∷ 0x80 ∷ 0x80 ∷ []) ∷ (0x80 ∷ 0x80 ∷ 0x80 ∷ 1 ∷ []) ∷ [])
      ≡ 31 ∷ 31 ∷ 31 ∷ 31 ∷ []
  pub zero-alone : read_number (0 ∷ []) ≡ taken (part 0 [])

pub numbers : Numbers
unfolding groups read_groups
numbers = record { three-hundred = refl; edges = refl; reads = refl; cut = refl; form = refl; zero-alone = refl }

-- "minutes since 1 January 00:00 of a leap year"
abbrev some_times : List ℕ
some_times = 01010000 ∷ 01010001 ∷ 01010100 ∷ 01020000 ∷ 01312359 ∷ 02010000 ∷ 02292359 ∷ 03010000 ∷ 07010000 ∷ 12312359 ∷ []

abbrev their_minutes : List ℕ
their_minutes = 0 ∷ 1 ∷ 60 ∷ 1440 ∷ 44639 ∷ 44640 ∷ 86399 ∷ 86400 ∷ 262080 ∷ 527039 ∷ []

pub record Times : Type 0 where
  pub in-minutes : map minutes_of some_times ≡ their_minutes
  pub back : map time_of their_minutes ≡ some_times
  pub months : map days_in (0 ∷ 1 ∷ 2 ∷ 11 ∷ 12 ∷ []) ≡ 0 ∷ 31 ∷ 60 ∷ 335 ∷ 366 ∷ []
  pub year : year_minutes ≡ 527040
  -- behind the year a day goes on counting in December
  pub behind : time_of 527040 ≡ 12320000

pub times : Times
unfolding is_short_month days_of days_in day_number minute_number minutes_of date_from clock_of time_of
times = record { in-minutes = refl; back = refl; months = refl; year = refl; behind = refl }

-- each bound with its neighbour
pub record Bounds : Type 0 where
  pub of-minutes : map (may_be Minutes) (0 ∷ 527039 ∷ 527040 ∷ []) ≡ true ∷ true ∷ false ∷ []
  pub of-runway : map (may_be Runway) (3 ∷ 4 ∷ 75 ∷ 76 ∷ []) ≡ false ∷ true ∷ true ∷ false ∷ []
  pub of_code : map (may_be (Code 0)) (0 ∷ 6 ∷ 7 ∷ []) ≡ true ∷ true ∷ false ∷ []
  pub of-coverage : map (may_be (Coverage 1)) (0 ∷ 4 ∷ 5 ∷ []) ≡ true ∷ true ∷ false ∷ []
  pub of-depth : map (may_be (Depth 2)) (0 ∷ 1 ∷ 2 ∷ 3 ∷ 999 ∷ 1000 ∷ []) ≡ true ∷ false ∷ false ∷ true ∷ true ∷ false ∷ []
  pub of-description : map (may_be (Description 0)) (0 ∷ 15 ∷ 16 ∷ []) ≡ true ∷ true ∷ false ∷ []
  pub of_width : map (may_be Width) (0 ∷ 99 ∷ 100 ∷ []) ≡ true ∷ true ∷ false ∷ []

pub bounds : Bounds
unfolding ◌and◌
bounds = record { of-minutes = refl; of-runway = refl; of_code = refl; of-coverage = refl; of-depth = refl; of-description = refl; of_width = refl }

abbrev row : ℕ → ℕ → ℕ → Third → Third → Third → ℕ → Row
row t n s a b c w = record { time = t; number = n; side = s; thirds = a ∷ b ∷ c ∷ []; width = w }

-- a row whose numbers all differ: 01022359 18C 1/2/3 25/50/75 04/05/06 SLUSH/STANDING WATER/WET SNOW 45
abbrev distinct : Row
distinct = row 1022359 18 2 (third 1 25 4 7) (third 2 50 5 8) (third 3 75 6 12) 45

-- 01010000 07 6/6/6 DRY/DRY/DRY
abbrev dry_row : Row
dry_row = row 1010000 7 0 (third 6 0 0 15) (third 6 0 0 15) (third 6 0 0 15) 0

abbrev dry_bytes : List ℕ
dry_bytes = 0 ∷ 28 ∷ 6 ∷ 6 ∷ 6 ∷ 0 ∷ 0 ∷ 0 ∷ 0 ∷ 0 ∷ 0 ∷ 15 ∷ 15 ∷ 15 ∷ 0 ∷ []

-- the numbers of a row, and of a list of rows, in order
pub record Order : Type 0 where
  pub one : row_numbers distinct ≡ 2879 ∷ 74 ∷ 1 ∷ 2 ∷ 3 ∷ 1 ∷ 2 ∷ 3 ∷ 4 ∷ 5 ∷ 6 ∷ 7 ∷ 8 ∷ 12 ∷ 45 ∷ []
  pub two : radio_record (distinct ∷ dry_row ∷ []) ≡ 2 ∷ 0xBF ∷ 0x16 ∷ 74 ∷ 1 ∷ 2 ∷ 3 ∷ 1 ∷ 2 ∷ 3 ∷ 4 ∷ 5 ∷ 6 ∷ 7 ∷ 8 ∷ 12 ∷ 45 ∷ dry_bytes
  pub back : read_record (2 ∷ 0xBF ∷ 0x16 ∷ 74 ∷ 1 ∷ 2 ∷ 3 ∷ 1 ∷ 2 ∷ 3 ∷ 4 ∷ 5 ∷ 6 ∷ 7 ∷ 8 ∷ 12 ∷ 45 ∷ dry_bytes) ≡ taken (distinct ∷ dry_row ∷ [])
  -- the order of rows is kept
  pub other : read_record (2 ∷ dry_bytes ++ (0xBF ∷ 0x16 ∷ 74 ∷ 1 ∷ 2 ∷ 3 ∷ 1 ∷ 2 ∷ 3 ∷ 4 ∷ 5 ∷ 6 ∷ 7 ∷ 8 ∷ 12 ∷ 45 ∷ [])) ≡ taken (dry_row ∷ distinct ∷ [])

pub in_order : Order
unfolding is_short_month days_of days_in day_number minute_number minutes_of date_from clock_of time_of real_day real_clock real_time valid_runway
    is_contaminant is_deep is_coverage valid_coverage least_depth is_reported valid_depth valid_third three_that valid_row same_runway is_among
    new_runways groups read_groups read_fields each list_numbers radio_record read_rows read_record ◌and◌
in_order = record { one = refl; two = refl; back = refl; other = refl }

-- what refuses each of several records
abbrev refused : List (List ℕ) → List ℕ
refused = map (λ m. refusal (read_record m))

pub record Refused : Type 0 where
  -- the count: "no row, over eight"; 1 and 8 go on
  pub counts : refused ((0 ∷ []) ∷ (1 ∷ []) ∷ (8 ∷ []) ∷ (9 ∷ []) ∷ []) ≡ 32 ∷ 30 ∷ 30 ∷ 32 ∷ []
  pub numbers-first : refused ([] ∷ (0x80 ∷ []) ∷ (0x80 ∷ 0x80 ∷ []) ∷ (0x80 ∷ 0x80 ∷ 0x80 ∷ []) ∷ (0x80 ∷ 0 ∷ []) ∷ (0x80 ∷ 0x80 ∷ 0 ∷ []) ∷ [])
      ≡ 30 ∷ 30 ∷ 30 ∷ 31 ∷ 31 ∷ 31 ∷ []
  -- 31 before the value is judged: 9 in two groups; 32 where the form is its own
  pub form-first : refused ((0x89 ∷ 0 ∷ []) ∷ (0x89 ∷ 1 ∷ []) ∷ []) ≡ 31 ∷ 32 ∷ []
  -- a value as soon as it is complete, also where the record is cut behind it
  pub at_once : refused
      ((1 ∷ 0xBF ∷ 0x95 ∷ 0x20 ∷ []) ∷ (1 ∷ 0xC0 ∷ 0x95 ∷ 0x20 ∷ [])
      ∷ (1 ∷ 0 ∷ 3 ∷ []) ∷ (1 ∷ 0 ∷ 4 ∷ []) ∷ (1 ∷ 0 ∷ 75 ∷ []) ∷ (1 ∷ 0 ∷ 76 ∷ [])
      ∷ (1 ∷ 0 ∷ 28 ∷ 6 ∷ []) ∷ (1 ∷ 0 ∷ 28 ∷ 7 ∷ [])
      ∷ (1 ∷ 0 ∷ 28 ∷ 6 ∷ 6 ∷ 6 ∷ 4 ∷ []) ∷ (1 ∷ 0 ∷ 28 ∷ 6 ∷ 6 ∷ 6 ∷ 5 ∷ [])
      ∷ (1 ∷ 0 ∷ 28 ∷ 6 ∷ 6 ∷ 6 ∷ 0 ∷ 0 ∷ 0 ∷ 2 ∷ []) ∷ (1 ∷ 0 ∷ 28 ∷ 6 ∷ 6 ∷ 6 ∷ 0 ∷ 0 ∷ 0 ∷ 3 ∷ [])
      ∷ (1 ∷ 0 ∷ 28 ∷ 6 ∷ 6 ∷ 6 ∷ 0 ∷ 0 ∷ 0 ∷ 0xE7 ∷ 7 ∷ []) ∷ (1 ∷ 0 ∷ 28 ∷ 6 ∷ 6 ∷ 6 ∷ 0 ∷ 0 ∷ 0 ∷ 0xE8 ∷ 7 ∷ [])
      ∷ (1 ∷ 0 ∷ 28 ∷ 6 ∷ 6 ∷ 6 ∷ 0 ∷ 0 ∷ 0 ∷ 0 ∷ 0 ∷ 0 ∷ 15 ∷ []) ∷ (1 ∷ 0 ∷ 28 ∷ 6 ∷ 6 ∷ 6 ∷ 0 ∷ 0 ∷ 0 ∷ 0 ∷ 0 ∷ 0 ∷ 16 ∷ []) ∷ [])
      ≡ 30 ∷ 32 ∷ 32 ∷ 30 ∷ 30 ∷ 32 ∷ 30 ∷ 32 ∷ 30 ∷ 32 ∷ 32 ∷ 30 ∷ 30 ∷ 32 ∷ 30 ∷ 32 ∷ []
  pub widths : refused
      ((1 ∷ 0 ∷ 28 ∷ 6 ∷ 6 ∷ 6 ∷ 0 ∷ 0 ∷ 0 ∷ 0 ∷ 0 ∷ 0 ∷ 15 ∷ 15 ∷ 15 ∷ 99 ∷ [])
      ∷ (1 ∷ 0 ∷ 28 ∷ 6 ∷ 6 ∷ 6 ∷ 0 ∷ 0 ∷ 0 ∷ 0 ∷ 0 ∷ 0 ∷ 15 ∷ 15 ∷ 15 ∷ 100 ∷ []) ∷ []) ≡ 0 ∷ 32 ∷ []
  -- what needs several values waits for the width: a coverage under DRY, 3 mm under STANDING WATER
  pub wait : refused
      ((1 ∷ 0 ∷ 28 ∷ 6 ∷ 6 ∷ 6 ∷ 1 ∷ 0 ∷ 0 ∷ 0 ∷ 0 ∷ 0 ∷ 15 ∷ 15 ∷ 15 ∷ [])
      ∷ (1 ∷ 0 ∷ 28 ∷ 6 ∷ 6 ∷ 6 ∷ 1 ∷ 0 ∷ 0 ∷ 0 ∷ 0 ∷ 0 ∷ 15 ∷ 15 ∷ 15 ∷ 0 ∷ [])
      ∷ (1 ∷ 0 ∷ 28 ∷ 6 ∷ 6 ∷ 6 ∷ 0 ∷ 0 ∷ 0 ∷ 3 ∷ 0 ∷ 0 ∷ 8 ∷ 15 ∷ 15 ∷ [])
      ∷ (1 ∷ 0 ∷ 28 ∷ 6 ∷ 6 ∷ 6 ∷ 0 ∷ 0 ∷ 0 ∷ 3 ∷ 0 ∷ 0 ∷ 8 ∷ 15 ∷ 15 ∷ 0 ∷ [])
      ∷ (1 ∷ 0 ∷ 28 ∷ 6 ∷ 6 ∷ 6 ∷ 0 ∷ 0 ∷ 0 ∷ 4 ∷ 0 ∷ 0 ∷ 8 ∷ 15 ∷ 15 ∷ 0 ∷ []) ∷ []) ≡ 30 ∷ 32 ∷ 30 ∷ 32 ∷ 0 ∷ []
  -- and so does a runway twice
  pub twice : refused ((2 ∷ dry_bytes ++ (0 ∷ 28 ∷ 6 ∷ 6 ∷ 6 ∷ 0 ∷ 0 ∷ 0 ∷ 0 ∷ 0 ∷ 0 ∷ 15 ∷ 15 ∷ 15 ∷ []))
      ∷ (2 ∷ dry_bytes ++ dry_bytes) ∷ (3 ∷ dry_bytes ++ dry_bytes) ∷ []) ≡ 30 ∷ 32 ∷ 32 ∷ []
  -- "bytes left over", and the record itself
  pub left_over : refused ((1 ∷ dry_bytes) ∷ (1 ∷ dry_bytes ++ (0 ∷ [])) ∷ (1 ∷ dry_bytes ++ (0x80 ∷ [])) ∷ []) ≡ 0 ∷ 32 ∷ 32 ∷ []

pub refusals : Refused
unfolding is_short_month days_of days_in day_number minute_number minutes_of date_from clock_of time_of real_day real_clock real_time valid_runway
    is_contaminant is_deep is_coverage valid_coverage least_depth is_reported valid_depth valid_third three_that valid_row same_runway is_among
    new_runways groups read_groups read_fields each list_numbers radio_record read_rows read_record ◌and◌
refusals = record { counts = refl; numbers-first = refl; form-first = refl; at_once = refl; widths = refl; wait = refl; twice = refl; left_over = refl }

-- a record of 161 bytes
abbrev deep : Third
deep = third 0 100 999 7

abbrev wide : ℕ → Row
wide n = row 12312359 n 3 deep deep deep 99

abbrev eight : List Row
eight = map wide (1 ∷ 2 ∷ 3 ∷ 4 ∷ 5 ∷ 6 ∷ 7 ∷ 8 ∷ [])

abbrev bad : Row
bad = row 0 7 0 deep deep deep 0

pub record Writing : Type 0 where
  -- the longest record is reached
  pub reached : (sendable eight ≡ true) × (length (radio_record eight) ≡ longest)
  -- "32 for no row or over eight, 19 for an invalid row, 32 for a runway twice, then 14"
  pub count : refusal (write_record 200 []) ≡ 32
  pub nine-bad : refusal (write_record 200 (bad ∷ bad ∷ bad ∷ bad ∷ bad ∷ bad ∷ bad ∷ bad ∷ bad ∷ [])) ≡ 32
  pub bad-third : refusal (write_record 200 (dry_row ∷ dry_row ∷ bad ∷ [])) ≡ 19
  pub again : refusal (write_record 0 (dry_row ∷ dry_row ∷ [])) ≡ 32
  pub room : (refusal (write_record 15 (dry_row ∷ [])) ≡ 14) × (write_record 16 (dry_row ∷ []) ≡ taken (1 ∷ dry_bytes))
  pub all_room : (refusal (write_record 160 eight) ≡ 14) × (refusal (write_record 161 eight) ≡ 0)

pub writing : Writing
unfolding is_short_month days_of days_in day_number minute_number minutes_of date_from clock_of time_of real_day real_clock real_time valid_runway
    is_contaminant is_deep is_coverage valid_coverage least_depth is_reported valid_depth valid_third three_that valid_row same_runway is_among
    new_runways groups each list_numbers radio_record sendable write_record ◌and◌
writing = record { reached = (refl, refl); count = refl; nine-bad = refl; bad-third = refl; again = refl; room = (refl, refl); all_room = (refl, refl) }
