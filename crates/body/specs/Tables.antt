-- "No runway twice": number and side together; the refusals of lines that are missing or too many; the answers, evaluated.
use Rattle.std.specs.Prelude.{ℕ, ◌≡◌, refl, List, [], ◌∷◌, ◌++◌, map, Bool, true, false, Ok, Err, replicate}
use Prim.Native.String.{String}
use Rattle.std.proofs.Common.{lit≤}
use Rattle.text.specs.Choice.{◌and◌}
use Rattle.text.specs.Piece.{bytes}
use Rattle.text.specs.Read.{skip, read_text}
use Rattle.text.specs.Names.{read_name}
use Rattle.text.specs.Numbers.{read_digits}
use Rattle.text.specs.Lines.{cut, cuts, line_step, end_size, lines_size, closed, all_but_last}
use Rattle.text.specs.Out.{Out, refuse}
use Rattle.row.specs.declared.Row.{Row}
use Rattle.row.specs.Row.{blank_row, three_that, valid_row, is_bare, is_six, is_dry, is_short}
use Rattle.rowtext.specs.Reading.{parted, may_cover, may_lie, read_width, time_group, runway_group, code_group, coverage_group, depth_group, description_group}
use Rattle.rowtext.specs.Reading.{width_group, short, find_row}
use Rattle.body.specs.Rows.{most_rows, make_rows, same_runway, is_among, new_runways, latest, Block, read_rows}
use Rattle.body.specs.Rows as Rows
use Rattle.body.specs.Code.Held.{Kept, LineHeld, RowsHeld}
use Rattle.body.specs.declared.Rows.{Rows}
use Rattle.body.specs.declared.RowsFound.{RowsFound}
use Rattle.text.specs.declared.refusal.Fault.{Fault}
use Rattle.text.specs.declared.refusal.Refusal.{Refusal}
use Rattle.text.specs.declared.refusal.Refusal.TheVariants.{Outline, RunwayTwice, WrongRunway}
use Rattle.runway.specs.Time.{is_short_month, days_of, real_day, real_clock, real_time, later}
use Rattle.runway.specs.Runway.{valid_runway}
use Rattle.surface.specs.Descriptions.{is_contaminant, is_deep, not_reported, dry}
use Rattle.surface.specs.Third.{third, is_coverage, valid_coverage, least_depth, is_reported, valid_depth, valid_third}
use Rattle.thirds.specs.Groups.{measure_pieces, read_measure, read_coverage, read_description, read_third, read_group}

-- rows of which only the runway or the time matters
abbrev on : ℕ → ℕ → Row
on number side = record { time = 0; number = number; side = side; thirds = blank_row.thirds; width = 0 }

abbrev at : ℕ → Row
at time = record { time = time; number = 1; side = 0; thirds = blank_row.thirds; width = 0 }

pub record Runways : Type 0 where
  same : map (same_runway (on 7 1)) (on 7 1 ∷ on 7 2 ∷ on 7 0 ∷ on 8 1 ∷ on 6 1 ∷ []) ≡ true ∷ false ∷ false ∷ false ∷ false ∷ []
  among : map (is_among (on 7 1)) ([] ∷ (on 7 2 ∷ on 7 1 ∷ []) ∷ (on 7 2 ∷ on 8 1 ∷ []) ∷ []) ≡ false ∷ true ∷ false ∷ []
  new : map (new_runways []) ([] ∷ (on 7 1 ∷ on 7 2 ∷ on 8 1 ∷ []) ∷ (on 7 1 ∷ on 7 2 ∷ on 7 1 ∷ []) ∷ []) ≡ true ∷ true ∷ false ∷ []
  -- "The heading's time is the latest row time"
  times : map latest ([] ∷ (at 1120610 ∷ []) ∷ (at 1120610 ∷ at 1120640 ∷ at 1120625 ∷ []) ∷ []) ≡ 0 ∷ 1120610 ∷ 1120640 ∷ []
  -- in season order: over New Year, in either order of the rows; of 1 July and 30 June; about 29 February
  seasons : map latest ((at 12312350 ∷ at 1010010 ∷ []) ∷ (at 1010010 ∷ at 12312350 ∷ []) ∷ (at 6302359 ∷ at 7010000 ∷ []) ∷ (at 7010000 ∷ at 6302359 ∷ [])
      ∷ (at 2282359 ∷ at 2290000 ∷ []) ∷ (at 3010000 ∷ at 2292359 ∷ []) ∷ [])
      ≡ 1010010 ∷ 1010010 ∷ 6302359 ∷ 6302359 ∷ 2290000 ∷ 3010000 ∷ []

pub runways : Runways
unfolding ◌and◌ same_runway is_among new_runways latest Rows.latest_of Rows.latest_from later
runways = record { same = refl; among = refl; new = refl; times = refl; seasons = refl }

-- a closed line, and the row that it is
abbrev line : List ℕ
line = bytes "01120640 12 6/6/6 DRY/DRY/DRY)"

abbrev dries : Row
dries = record {
  time = 1120640;
  number = 12;
  side = 0;
  thirds = third 6 not_reported not_reported dry ∷ third 6 not_reported not_reported dry
      ∷ third 6 not_reported not_reported dry ∷ [];
  width = 0;
}

abbrev rows : Rows
rows = make_rows (dries ∷ [])

-- the rows with `)` or none, and the place behind them
abbrev found : Bool → ℕ → RowsFound
found c next = record { rows = rows; closed = c; next = next }

-- a refusal, and where it is told
abbrev fault : Refusal → ℕ → Fault
fault e at = record { refusal = e; place = at }

-- the rows of a message, and where it is told to be wrong
abbrev read : String → Out Block
read s = read_rows most_rows [] (cuts (bytes s))

pub record Answers : Type 0 where
  -- "1 to 8 runway rows": 4 where none is left to read, 6 for a ninth
  most : most_rows ≡ 8
  missing : map (λ n. read_rows n (dries ∷ []) []) (0 ∷ 8 ∷ []) ≡ refuse 4 [] ∷ refuse 4 [] ∷ []
  ninth : read_rows 0 (dries ∷ []) (cut line (10 ∷ []) ∷ []) ≡ refuse 6 (line ++ (10 ∷ []))
  -- "An empty line while there is no row is a line that stands there"; "`)` alone in a row's place: 5 at it"
  no-row : map read ("" ∷ "\r\nA" ∷ ")\n" ∷ []) ≡ refuse 4 [] ∷ refuse 4 (bytes "\r\nA") ∷ refuse 5 (bytes ")\n") ∷ []
  -- "a missing group: the row's end, .. before a closing `)` and before the CR of CR LF"
  row-end : map read ("01120640)" ∷ "01120640 \r\n" ∷ []) ≡ refuse 24 (bytes ")") ∷ refuse 24 (bytes "\r\n") ∷ []
  -- "7: the runway group of the later row", behind any spaces
  twice : read "01120640 12 6/6/6 DRY/DRY/DRY\n01120641   12 6/6/6 DRY/DRY/DRY)" ≡ refuse 7 (bytes "12 6/6/6 DRY/DRY/DRY)")
  -- "for bytes after the end the first of them"
  after : read "01120640 12 6/6/6 DRY/DRY/DRY)\r\n)" ≡ refuse 4 (bytes ")")
  -- no rows
  none : make_rows [] ≡ record { count = 0; rows = replicate 8 blank_row }
  -- the row of a line, with `)` and without, or its fault
  line_closed : LineHeld line (Ok (record { row = dries; closed = true }))
  line_open : LineHeld (all_but_last line) (Ok (record { row = dries; closed = false }))
  line_fault : LineHeld (bytes "01120640)") (Err (fault WrongRunway 8))
  -- rows that `)` closes, rows above an empty line with its place behind it, and faults
  held-closed : RowsHeld line (Ok (found true 0))
  held_open : RowsHeld (bytes "01120640 12 6/6/6 DRY/DRY/DRY\n\nA") (Ok (found false 31))
  held_none : RowsHeld [] (Err (fault Outline 0))
  held_twice : RowsHeld (bytes "01120640 12 6/6/6 DRY/DRY/DRY\n01120641 12 6/6/6 DRY/DRY/DRY)") (Err (fault RunwayTwice 39))
  held_after : RowsHeld (bytes "01120640 12 6/6/6 DRY/DRY/DRY)\r\n)") (Err (fault Outline 32))

kept : Kept rows
kept = record { few = lit≤ tt; zeros = refl }

pub answers : Answers
unfolding ◌and◌ skip read_text read_name read_digits measure_pieces read_measure read_coverage read_description read_third read_group
    parted may_cover may_lie read_width time_group runway_group code_group coverage_group depth_group description_group width_group short find_row
    is_short_month days_of real_day real_clock real_time valid_runway is_contaminant is_deep is_coverage valid_coverage least_depth is_reported valid_depth
    valid_third three_that valid_row is_bare is_six is_dry is_short cuts line_step end_size lines_size closed all_but_last same_runway is_among read_rows
answers = record {
  most = refl;
  missing = refl;
  ninth = refl;
  no-row = refl;
  row-end = refl;
  twice = refl;
  after = refl;
  none = refl;
  line_closed = record { says = refl; closes = refl };
  line_open = record { says = refl; closes = refl };
  line_fault = record { within = lit≤ tt; says = refl };
  held-closed = record { kept = kept; says = refl; behind = refl };
  held_open = record { kept = kept; says = refl; behind = refl };
  held_none = record { within = lit≤ tt; says = refl };
  held_twice = record { within = lit≤ tt; says = refl };
  held_after = record { within = lit≤ tt; says = refl };
}
