-- Listings evaluated: document 01's own message, and refused ones.
use Rattle.std.specs.Prelude.{ℕ, ◌≡◌, refl, List, [], ◌∷◌, ◌++◌, map, replicate}
use Rattle.text.specs.Choice.{◌and◌}
use Rattle.text.specs.Arrays.{slots, flat}
use Rattle.text.specs.Lines.{cuts, closed, all_but_last, ended}
use Rattle.text.specs.Names.{is_mark, read_count, run, past, read_name}
use Rattle.text.specs.Numbers.{read_digits, digits}
use Rattle.text.specs.Piece.{spell}
use Rattle.text.specs.Read.{skip, read_text, read_many}
use Rattle.runway.specs.Runway.{valid_runway}
use Rattle.runway.specs.Time.{is_short_month, days_of, real_day, real_clock, real_time, later}
use Rattle.surface.specs.Descriptions.{is_contaminant, is_deep}
use Rattle.surface.specs.Table1.{table1, is_named, can_hold, allows, agrees}
use Rattle.surface.specs.Third.{is_coverage, valid_coverage, least_depth, is_reported, valid_depth, valid_third}
use Rattle.thirds.specs.Groups.{measure_pieces, read_measure, read_coverage, read_description, third_pieces, read_third, highest, read_group}
use Rattle.row.specs.Agreement.{disagrees, disagreements}
use Rattle.rowtext.specs.Reading.{parted, may_cover, may_lie, read_width, time_group, runway_group, code_group, coverage_group, depth_group, description_group}
use Rattle.rowtext.specs.Reading.{width_group, short, find_row}
use Rattle.row.specs.Row.{three_that, valid_row, is_bare, is_six, is_dry, is_short}
use Rattle.rowtext.specs.Text.{middle_pieces, width_pieces, row_pieces}
use Rattle.frontlines.specs.Addresses.{addresses_pieces, read_addresses}
use Rattle.frontlines.specs.Filing.{real_filing, filing_pieces, read_filing}
use Rattle.frontlines.specs.Heading.{heading_pieces, read_heading, serial_pieces, read_serial_line, aerodrome_pieces, read_aerodrome}
use Rattle.frontlines.specs.Letters.{is_letters}
use Rattle.items.specs.Awareness.{same_runway, other_apron, may_repeat, may_follow, in_order, awareness_pieces, read_awareness, whole_awareness}
use Rattle.items.specs.Item.{on_runway, on_taxiways, runway_fits, amount_fits, edge_fits, count_fits, is_taxiway, valid_slot, is_new, slots_fit, taxiways_fit}
use Rattle.items.specs.Item.{name_fits, numbers_fit, valid_item}
use Rattle.items.specs.ItemText.{item_text, item_pieces}
use Rattle.items.specs.Language.{last_is, valid_language, whole_language}
use Rattle.items.specs.ReadItem.{read_length, read_bank, read_neither, read_detail, read_taxiway, read_taxiways, read_apron, read_runway_form, read_taxi_form}
use Rattle.items.specs.ReadItem.{read_apron_form, read_bare_form, read_form, read_body, read_item}
use Rattle.body.specs.Rows.{is_among, new_runways, latest_of, latest_from, latest, read_rows}
use Rattle.record.specs.Notice.{notice_lines, notice, notice_text}
use Rattle.notice.specs.Reading.{agreeing, read_notice, reading}
use Rattle.notice.specs.Examples.{message, headed, typed, retyped}
use Rattle.listing.specs.Listing.{disagreeing_thirds, counted, accepted_line, refused_line, listed, listing}
use Rattle.body.specs.Rows as Rows

-- so many spaces
abbrev spaces : ℕ → List ℕ
spaces n = replicate n 32

pub record Tables : Type 0 where
  -- "Output: `ACCEPTED 2 2 1`, then the same lines, but .."
  accepted : listing typed ≡ message ("ACCEPTED 2 2 1" ∷ []) ++ retyped
  -- "Empty message: 2"; "serials differ"
  refused : map listing ([] ∷ headed "SWXQ0007 XQAA 01120640" "(SNOWTAM 0008" "XQAA" ∷ []) ≡ message ("REFUSED 2" ∷ []) ∷ message ("REFUSED 10" ∷ []) ∷ []
  -- "message over 4,096 bytes"
  long : map listing (spaces 4096 ∷ spaces 4097 ∷ []) ≡ message ("REFUSED 2" ∷ []) ∷ message ("REFUSED 1" ∷ []) ∷ []

pub tables : Tables
unfolding slots flat ◌and◌ cuts closed all_but_last ended run past is_mark read_count read_name read_digits digits spell skip read_text read_many valid_runway
    is_short_month days_of real_day real_clock real_time later is_contaminant is_deep is_coverage valid_coverage least_depth is_reported valid_depth valid_third
    measure_pieces read_measure read_coverage read_description third_pieces read_third highest read_group parted may_cover may_lie read_width time_group
    runway_group code_group coverage_group depth_group description_group width_group short find_row
    three_that valid_row
    is_bare is_six is_dry is_short middle_pieces width_pieces row_pieces addresses_pieces read_addresses real_filing filing_pieces read_filing heading_pieces read_heading
    serial_pieces read_serial_line aerodrome_pieces read_aerodrome is_letters same_runway other_apron may_repeat may_follow in_order awareness_pieces read_awareness
    whole_awareness on_runway on_taxiways runway_fits amount_fits edge_fits count_fits is_taxiway valid_slot is_new slots_fit taxiways_fit name_fits numbers_fit valid_item
    item_text item_pieces last_is valid_language whole_language read_length read_bank read_neither read_detail read_taxiway read_taxiways read_apron read_runway_form
    read_taxi_form read_apron_form read_bare_form read_form read_body read_item is_among new_runways latest_of latest_from latest read_rows notice_lines notice notice_text
    agreeing read_notice reading Rows.same_runway table1 is_named can_hold allows agrees disagrees disagreements disagreeing_thirds
    counted accepted_line refused_line listed listing
tables = record { accepted = refl; refused = refl; long = refl }
