-- The record: what is valid of it, and how it is made of what the lines say.
use Rattle.std.specs.Prelude.{List, [], Bool}
use Rattle.text.specs.Choice.{◌and◌}
use Rattle.row.specs.declared.Row.{Row}
use Rattle.frontlines.specs.declared.Addresses.{Addresses}
use Rattle.frontlines.specs.declared.Filing.{Filing}
use Rattle.frontlines.specs.declared.Title.{Title}
use Rattle.frontlines.specs.Addresses.{valid_addresses}
use Rattle.frontlines.specs.Filing.{valid_filing}
use Rattle.frontlines.specs.Heading.{valid_title}
use Rattle.frontlines.specs.Code.Answers.{blank_addresses, blank_filing, blank_title}
use Rattle.body.specs.Rows.{make_rows, valid_rows}
use Rattle.remarks.specs.Remarks.{Remarks}
use Rattle.items.specs.Parts.{make_items, make_language, holds_items, holds_language}
use Rattle.record.specs.declared.Record.{Record}

-- every part valid, zeros past each count and in every field that is not used
unfoldable pub valid_record : Record → Bool
valid_record r = valid_addresses r.addresses and valid_filing r.filing and valid_title r.title
    and valid_rows r.rows and holds_items r.items and holds_language r.language

-- lists in their arrays, zeros behind
abbrev pub make_record : Addresses → Filing → Title → List Row → Remarks → Record
make_record a f t rs x = record { addresses = a; filing = f; title = t; rows = make_rows rs; items = make_items x.items; language = make_language x.language }

-- "blank means all zero"
abbrev pub blank_record : Record
blank_record = record {
  addresses = blank_addresses;
  filing = blank_filing;
  title = blank_title;
  rows = make_rows [];
  items = make_items [];
  language =
      make_language [];
}
