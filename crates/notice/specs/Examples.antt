-- Document 01's message ("The lister's output"), its answer and its text, evaluated.
use Rattle.std.specs.Prelude.{ℕ, ◌≡◌, refl, List, [], ◌∷◌, ◌++◌, map, replicate}
use Prim.Native.String.{String}
use Rattle.text.specs.Choice.{◌and◌}
use Rattle.text.specs.Arrays.{slots, flat}
use Rattle.text.specs.Lines.{cuts, closed, ended}
use Rattle.text.specs.Lines as Lines
use Rattle.text.specs.Names.{is_mark, read_count, run, past, read_name}
use Rattle.text.specs.Numbers.{read_digits, digits}
use Rattle.text.specs.Piece.{bytes, spell}
use Rattle.text.specs.Read.{skip, read_text, read_many}
use Rattle.runway.specs.Runway.{valid_runway}
use Rattle.runway.specs.Time.{is_short_month, days_of, real_day, real_clock, real_time, later}
use Rattle.surface.specs.Descriptions.{is_contaminant, is_deep}
use Rattle.surface.specs.Third.{is_coverage, valid_coverage, least_depth, is_reported, valid_depth, valid_third}
use Rattle.thirds.specs.Groups.{measure_pieces, read_measure, read_coverage, read_description, third_pieces, read_third, highest, read_group}
use Rattle.rowtext.specs.Reading.{parted, may_cover, may_lie, read_width, time_group, runway_group, code_group, coverage_group, depth_group, description_group}
use Rattle.rowtext.specs.Reading.{width_group, short, find_row}
use Rattle.row.specs.Row.{three_that, valid_row, is_bare, is_six, is_dry, is_short}
use Rattle.rowtext.specs.Text.{middle_pieces, width_pieces, row_pieces}
use Rattle.frontlines.specs.Addresses.{addresses_pieces, read_addresses}
use Rattle.frontlines.specs.Filing.{real_filing, filing_pieces, read_filing}
use Rattle.frontlines.specs.Heading.{heading_pieces, read_heading, serial_pieces, read_serial_line, aerodrome_pieces, read_aerodrome}
use Rattle.frontlines.specs.Letters.{is_letters}
use Rattle.items.specs.Awareness.{same_runway, other_apron, may_repeat, may_follow, in_order, awareness_pieces, read_awareness, whole_awareness}
use Rattle.items.specs.Item.{on_runway, on_taxiways, runway_fits, amount_fits, edge_fits, count_fits, is_taxiway, valid_slot, is_new, slots_fit, taxiways_fit}
use Rattle.items.specs.Item.{name_fits, numbers_fit, valid_item}
use Rattle.items.specs.ItemText.{item_text, item_pieces}
use Rattle.items.specs.Language.{last_is, valid_language, whole_language}
use Rattle.items.specs.ReadItem.{read_length, read_bank, read_neither, read_detail, read_taxiway, read_taxiways, read_apron, read_runway_form, read_taxi_form}
use Rattle.items.specs.ReadItem.{read_apron_form, read_bare_form, read_form, read_body, read_item}
use Rattle.body.specs.Rows.{is_among, new_runways, latest_of, latest_from, latest, read_rows}
use Rattle.record.specs.Notice.{notice_lines, notice, notice_text}
use Rattle.notice.specs.Reading.{agreeing, read_notice, reading}
use Rattle.body.specs.Rows as Rows

-- lines, each with its LF
abbrev pub message : List String → List ℕ
message [] = []
message (s ∷ ss) = bytes s ++ (10 ∷ message ss)

-- lines 1 to 5 of the example, with the lines below them
abbrev below : List String → List ℕ
below ss = message ("GG XQAAYNYX XQBBYOYX" ∷ "120645 XQAAYNYX" ∷ "SWXQ0007 XQAA 01120640" ∷ "(SNOWTAM 0007" ∷ "XQAA" ∷ ss)

-- the same with another heading, fourth and fifth line, over one row
abbrev pub headed : String → String → String → List ℕ
headed l₃ l₄ l₅ = message ("GG XQAAYNYX XQBBYOYX" ∷ "120645 XQAAYNYX" ∷ l₃ ∷ l₄ ∷ l₅ ∷ "01120640 07R 6/6/6 DRY/DRY/DRY)" ∷ [])

-- the message that the example takes
abbrev pub typed : List ℕ
typed = below (
    "01120610 07L 3/5/5 75/25/NR 12/NR/NR DRY SNOW/FROST/DRY"
    ∷ "01120640 07R  6/6/6 NR/NR/NR NR/NR/NR DRY/DRY/DRY"
    ∷ ""
    ∷ "DRIFTING SNOW.TWY A W SNOWBANK."
    ∷ "RWY 07R SWEPT 40M.)"
    ∷ [])

-- and its canonical text
abbrev pub retyped : List ℕ
retyped = below (
    "01120610 07L 3/5/5 75/25/NR 12/NR/NR DRY SNOW/FROST/DRY"
    ∷ "01120640 07R 6/6/6 DRY/DRY/DRY"
    ∷ ""
    ∷ "DRIFTING SNOW. TWY A W SNOWBANK."
    ∷ "RWY 07R SWEPT 40M.)"
    ∷ [])

-- rows on both sides of New Year, under a heading
abbrev night : String → List ℕ
night heading = message ("GG XQAAYNYX" ∷ "010015 XQAAYNYX" ∷ heading ∷ "(SNOWTAM 0007" ∷ "XQAA"
    ∷ "12312350 07L 6/6/6 DRY/DRY/DRY" ∷ "01010010 07R 6/6/6 DRY/DRY/DRY)" ∷ [])

abbrev refusal_of : List ℕ → ℕ
refusal_of m = (reading m).refusal

pub record Examples : Type 0 where
  -- "`ACCEPTED 2 2 1`, then the same lines, but `01120640 07R 6/6/6 DRY/DRY/DRY` and `DRIFTING SNOW. TWY A W SNOWBANK.`"
  accepted : refusal_of typed ≡ 0
  rows : (reading typed).«record».rows.count ≡ 2
  items : (reading typed).«record».items.count ≡ 2
  rewritten : notice_text (reading typed).«record» ≡ retyped
  -- "Empty message: 2"; "A missing line 1 or 2 gives 2, a missing line 3 gives 3, any later one 4"
  missing : map refusal_of (
      []
      ∷ message ("GG XQAAYNYX XQBBYOYX" ∷ [])
      ∷ message ("GG XQAAYNYX XQBBYOYX" ∷ "120645 XQAAYNYX" ∷ [])
      ∷ message ("GG XQAAYNYX XQBBYOYX" ∷ "120645 XQAAYNYX" ∷ "SWXQ0007 XQAA 01120640" ∷ [])
      ∷ below []
      ∷ below ("01120640 07R 6/6/6 DRY/DRY/DRY" ∷ [])
      ∷ below ("01120640 07R 6/6/6 DRY/DRY/DRY)" ∷ "" ∷ [])
      ∷ []) ≡ 2 ∷ 2 ∷ 3 ∷ 4 ∷ 4 ∷ 4 ∷ 4 ∷ []
  -- a row, a runway twice, the awareness line, the plain language
  body : map refusal_of (
      below ("01120640 07R 7/6/6 DRY/DRY/DRY)" ∷ [])
      ∷ below ("01120640 07R 6/6/6 DRY/DRY/DRY" ∷ "01120610 07R 6/6/6 DRY/DRY/DRY)" ∷ [])
      ∷ below ("01120640 07R 6/6/6 DRY/DRY/DRY" ∷ "" ∷ "DRIFTING SAND.)" ∷ [])
      ∷ below ("01120640 07R 6/6/6 DRY/DRY/DRY" ∷ "" ∷ "DRIFTING SNOW." ∷ "swept.)" ∷ [])
      ∷ []) ≡ 25 ∷ 7 ∷ 8 ∷ 9 ∷ []
  -- below the empty line: a line missing, `)` missing, bytes after the end, an awareness line "empty before `)`", and three that are taken
  remarks : map refusal_of (
      below ("01120640 07R 6/6/6 DRY/DRY/DRY" ∷ "" ∷ [])
      ∷ below ("01120640 07R 6/6/6 DRY/DRY/DRY" ∷ "" ∷ "DRIFTING SNOW." ∷ [])
      ∷ below ("01120640 07R 6/6/6 DRY/DRY/DRY" ∷ "" ∷ "DRIFTING SNOW." ∷ "SWEPT." ∷ [])
      ∷ below ("01120640 07R 6/6/6 DRY/DRY/DRY" ∷ "" ∷ "DRIFTING SNOW." ∷ "SWEPT.)" ∷ "" ∷ [])
      ∷ below ("01120640 07R 6/6/6 DRY/DRY/DRY" ∷ "" ∷ "DRIFTING SNOW.)" ∷ "" ∷ [])
      ∷ below ("01120640 07R 6/6/6 DRY/DRY/DRY" ∷ "" ∷ ")" ∷ [])
      ∷ below ("01120640 07R 6/6/6 DRY/DRY/DRY" ∷ "" ∷ "" ∷ "SWEPT.)" ∷ [])
      ∷ below ("01120640 07R 6/6/6 DRY/DRY/DRY" ∷ "" ∷ "DRIFTING SNOW.)" ∷ [])
      ∷ below ("01120640 07R 6/6/6 DRY/DRY/DRY" ∷ "" ∷ "DRIFTING SNOW." ∷ "SWEPT.)" ∷ [])
      ∷ []) ≡ 4 ∷ 4 ∷ 4 ∷ 4 ∷ 4 ∷ 8 ∷ 0 ∷ 0 ∷ 0 ∷ []
  -- a ninth row
  ninth : refusal_of (below ("01120640 01 6/6/6 DRY/DRY/DRY" ∷ "01120640 02 6/6/6 DRY/DRY/DRY" ∷ "01120640 03 6/6/6 DRY/DRY/DRY"
      ∷ "01120640 04 6/6/6 DRY/DRY/DRY" ∷ "01120640 05 6/6/6 DRY/DRY/DRY" ∷ "01120640 06 6/6/6 DRY/DRY/DRY" ∷ "01120640 07 6/6/6 DRY/DRY/DRY"
      ∷ "01120640 08 6/6/6 DRY/DRY/DRY" ∷ "01120640 09 6/6/6 DRY/DRY/DRY)" ∷ [])) ≡ 6
  -- "serials differ; aerodromes differ; heading time not the latest"
  differing : map refusal_of (
      headed "SWXQ0007 XQAA 01120640" "(SNOWTAM 0007" "XQAA"
      ∷ headed "SWXQ0007 XQAA 01120640" "(SNOWTAM 0008" "XQBB"
      ∷ headed "SWXQ0007 XQAA 01120610" "(SNOWTAM 0007" "XQBB"
      ∷ headed "SWXQ0007 XQAA 01120610" "(SNOWTAM 0007" "XQAA"
      ∷ []) ≡ 0 ∷ 10 ∷ 11 ∷ 12 ∷ []
  -- in season order
  seasons : map refusal_of (night "SWXQ0007 XQAA 01010010" ∷ night "SWXQ0007 XQAA 12312350" ∷ []) ≡ 0 ∷ 12 ∷ []
  rewritten-night : notice_text (reading (night "SWXQ0007 XQAA 01010010")).«record» ≡ night "SWXQ0007 XQAA 01010010"

pub examples : Examples
unfolding slots flat ◌and◌ cuts closed Lines.all_but_last ended run past is_mark read_count read_name read_digits digits spell skip read_text read_many valid_runway
    is_short_month days_of real_day real_clock real_time later is_contaminant is_deep is_coverage valid_coverage least_depth is_reported valid_depth valid_third
    measure_pieces read_measure read_coverage read_description third_pieces read_third highest read_group parted may_cover may_lie read_width time_group
    runway_group code_group coverage_group depth_group description_group width_group short find_row three_that valid_row
    is_bare is_six is_dry is_short middle_pieces width_pieces row_pieces addresses_pieces read_addresses real_filing filing_pieces read_filing heading_pieces read_heading
    serial_pieces read_serial_line aerodrome_pieces read_aerodrome is_letters same_runway other_apron may_repeat may_follow in_order awareness_pieces read_awareness
    whole_awareness on_runway on_taxiways runway_fits amount_fits edge_fits count_fits is_taxiway valid_slot is_new slots_fit taxiways_fit name_fits numbers_fit valid_item
    item_text item_pieces last_is valid_language whole_language read_length read_bank read_neither read_detail read_taxiway read_taxiways read_apron read_runway_form
    read_taxi_form read_apron_form read_bare_form read_form read_body read_item is_among new_runways latest_of latest_from latest read_rows notice_lines notice notice_text
    agreeing read_notice reading Rows.same_runway
examples = record { accepted = refl; rows = refl; items = refl; rewritten = refl; missing = refl; body = refl; remarks = refl; ninth = refl; differing = refl; seasons = refl; rewritten-night = refl }

-- the number and the place of a message, and of lines 1 to 5, which have 70 bytes, with what stands below them
abbrev at : List ℕ → ℕ × ℕ
at m = ((reading m).refusal, (reading m).place)

abbrev told : String → ℕ × ℕ
told s = at (bytes s)

abbrev told_below : String → ℕ × ℕ
told_below s = at (bytes "GG XQAAYNYX\n120645 XQAAYNYX\nSWXQ0007 XQAA 01120640\n(SNOWTAM 0007\nXQAA\n" ++ bytes s)

-- the messages of the decisions on request 2, and their neighbours
pub record Places : Type 0 where
  -- "for a missing line or `)` the message's length"
  missing : map told (
      ""
      ∷ "GG XQAAYNYX"
      ∷ "GG XQAAYNYX\n120645 XQAAYNYX"
      ∷ "GG XQAAYNYX\n120645 XQAAYNYX\nSWXQ0007 XQAA 01120640\n"
      ∷ []) ≡ (2, 0) ∷ (2, 11) ∷ (3, 27) ∷ (4, 51) ∷ []
  -- the same below line 5
  cut : map told_below (
      ""
      ∷ "01120640 07R 6/6/6 DRY/DRY/DRY"
      ∷ "01120640 07R 6/6/6 DRY/DRY/DRY\n"
      ∷ "01120640 07R 6/6/6 DRY/DRY/DRY\n\n"
      ∷ "01120640 07R 6/6/6 DRY/DRY/DRY\n\nDRIFTING SNOW."
      ∷ []) ≡ (4, 70) ∷ (4, 100) ∷ (4, 101) ∷ (4, 102) ∷ (4, 116) ∷ []
  -- an empty line while there is no row is a line that stands there; `)` alone is a row
  empty : map told_below (
      "\n01120640 07R 6/6/6 DRY/DRY/DRY)"
      ∷ ")"
      ∷ []) ≡ (4, 70) ∷ (5, 70) ∷ []
  -- plain language without `)`: the message's length even where lines follow
  unclosed : map told_below (
      "01120640 07R 6/6/6 DRY/DRY/DRY\n\n\nA.\nB.)\n"
      ∷ []) ≡ (4, 110) ∷ []
  -- "for bytes after the end the first of them"
  trailing : map told_below (
      "01120640 07R 6/6/6 DRY/DRY/DRY)\n\n"
      ∷ "01120640 07R 6/6/6 DRY/DRY/DRY)\r\n)"
      ∷ "01120640 07R 6/6/6 DRY/DRY/DRY\n\nDRIFTING SNOW.)\nX"
      ∷ "01120640 07R 6/6/6 DRY/DRY/DRY\n\n\nA.)\nX"
      ∷ []) ≡ (4, 102) ∷ (4, 103) ∷ (4, 118) ∷ (4, 107) ∷ []
  -- 7: the runway group of the later row
  twice : map told_below (
      "01120640 07R 6/6/6 DRY/DRY/DRY\n01120640 07R 6/6/6 DRY/DRY/DRY)"
      ∷ "01120640 07R 6/6/6 DRY/DRY/DRY\n01120640   07R 6/6/6 DRY/DRY/DRY)"
      ∷ []) ≡ (7, 110) ∷ (7, 112) ∷ []
  -- "For lines it is the line's first byte", an empty one too
  lines : map told (
      "GG XQAAYNY\n"
      ∷ "\n"
      ∷ "GG XQAAYNYX\n\n"
      ∷ "GG XQAAYNYX\r\n120645 XQAAYNY"
      ∷ "GG XQAAYNYX\n120645 XQAAYNYX\nSWXQ0007 XQAA 02300000\n"
      ∷ "GG XQAAYNYX\n120645 XQAAYNYX\nSWXQ0007 XQAA 01120640\n(SNOWTAM 0000\n"
      ∷ "GG XQAAYNYX\n120645 XQAAYNYX\nSWXQ0007 XQAA 01120640\n(SNOWTAM 0007\nXQA\n"
      ∷ []) ≡ (2, 0) ∷ (2, 0) ∷ (2, 12) ∷ (2, 13) ∷ (3, 28) ∷ (4, 51) ∷ (4, 65) ∷ []
  -- the same of 8 and 9
  remarks : map told_below (
      "01120640 07R 6/6/6 DRY/DRY/DRY\n\nX.)"
      ∷ "01120640 07R 6/6/6 DRY/DRY/DRY\n\n)"
      ∷ "01120640 07R 6/6/6 DRY/DRY/DRY\n\nDRIFTING SNOW.\na.)"
      ∷ "01120640 07R 6/6/6 DRY/DRY/DRY\n\n\n)"
      ∷ []) ≡ (8, 102) ∷ (8, 102) ∷ (9, 117) ∷ (9, 103) ∷ []
  -- the same of 6
  ninth : at (message ("GG XQAAYNYX" ∷ "120645 XQAAYNYX" ∷ "SWXQ0007 XQAA 01120640" ∷ "(SNOWTAM 0007" ∷ "XQAA" ∷ "01120640 01 6/6/6 DRY/DRY/DRY"
      ∷ "01120640 02 6/6/6 DRY/DRY/DRY" ∷ "01120640 03 6/6/6 DRY/DRY/DRY" ∷ "01120640 04 6/6/6 DRY/DRY/DRY" ∷ "01120640 05 6/6/6 DRY/DRY/DRY"
      ∷ "01120640 06 6/6/6 DRY/DRY/DRY" ∷ "01120640 07 6/6/6 DRY/DRY/DRY" ∷ "01120640 08 6/6/6 DRY/DRY/DRY" ∷ "X)" ∷ [])) ≡ (6, 310)
  -- "for 10, 11 and 12 the later serial, the later aerodrome and the heading time"
  differing : map told (
      "GG XQAAYNYX\n120645 XQAAYNYX\nSWXQ0007 XQAA 01120640\n(SNOWTAM 0008\nXQBB\n01120640 07R 6/6/6 DRY/DRY/DRY)"
      ∷ "GG XQAAYNYX\n120645 XQAAYNYX\nSWXQ0007 XQAA 01120610\n(SNOWTAM 0007\nXQBB\n01120640 07R 6/6/6 DRY/DRY/DRY)"
      ∷ "GG XQAAYNYX\n120645 XQAAYNYX\nSWXQ0007 XQAA 01120610\n(SNOWTAM 0007\nXQAA\n01120640 07R 6/6/6 DRY/DRY/DRY)"
      ∷ "GG XQAAYNYX\n120645 XQAAYNYX\nSWXQ0007  XQAA   01120610\n(SNOWTAM 0007\nXQAA\n01120640 07R 6/6/6 DRY/DRY/DRY)"
      ∷ "GG XQAAYNYX\n120645 XQAAYNYX\nSWXQ0007 XQAA 01120640\n(SNOWTAM   0008\nXQAA\n01120640 07R 6/6/6 DRY/DRY/DRY)"
      ∷ []) ≡ (10, 60) ∷ (11, 65) ∷ (12, 42) ∷ (12, 45) ∷ (10, 62) ∷ []
  taken : map told_below (
      "01120640 07R 6/6/6 DRY/DRY/DRY)"
      ∷ "01120640 07R 6/6/6 DRY/DRY/DRY)\r\n"
      ∷ "01120640 07R 6/6/6 DRY/DRY/DRY\n\nDRIFTING SNOW.)"
      ∷ "01120640 07R 6/6/6 DRY/DRY/DRY\n\n\nA.)\n"
      ∷ []) ≡ (0, 0) ∷ (0, 0) ∷ (0, 0) ∷ (0, 0) ∷ []
  -- before a closing `)` and before the CR of CR LF
  short3 : map told_below (
      "01120640)"
      ∷ "01120640 )\r\n"
      ∷ "01120640 \r\n"
      ∷ []) ≡ (24, 78) ∷ (24, 79) ∷ (24, 79) ∷ []
  -- "for 1 the number 4,096"
  long : map at (replicate 4096 65 ∷ replicate 4097 65 ∷ []) ≡ (2, 0) ∷ (1, 4096) ∷ []

pub places : Places
unfolding slots flat ◌and◌ cuts closed Lines.all_but_last ended run past is_mark read_count read_name read_digits digits spell skip read_text read_many valid_runway
    is_short_month days_of real_day real_clock real_time later is_contaminant is_deep is_coverage valid_coverage least_depth is_reported valid_depth valid_third
    measure_pieces read_measure read_coverage read_description third_pieces read_third highest read_group parted may_cover may_lie read_width time_group
    runway_group code_group coverage_group depth_group description_group width_group short find_row three_that valid_row
    is_bare is_six is_dry is_short middle_pieces width_pieces row_pieces addresses_pieces read_addresses real_filing filing_pieces read_filing heading_pieces read_heading
    serial_pieces read_serial_line aerodrome_pieces read_aerodrome is_letters same_runway other_apron may_repeat may_follow in_order awareness_pieces read_awareness
    whole_awareness on_runway on_taxiways runway_fits amount_fits edge_fits count_fits is_taxiway valid_slot is_new slots_fit taxiways_fit name_fits numbers_fit valid_item
    item_text item_pieces last_is valid_language whole_language read_length read_bank read_neither read_detail read_taxiway read_taxiways read_apron read_runway_form
    read_taxi_form read_apron_form read_bare_form read_form read_body read_item is_among new_runways latest_of latest_from latest read_rows notice_lines notice notice_text
    agreeing read_notice reading Rows.same_runway
places = record {
  missing = refl;
  cut = refl;
  empty = refl;
  unclosed = refl;
  trailing = refl;
  twice = refl;
  lines = refl;
  remarks = refl;
  ninth = refl;
  differing = refl;
  taken = refl;
  short3 = refl;
  long = refl;
}
