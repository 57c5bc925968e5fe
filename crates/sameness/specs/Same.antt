-- Two parts of a record are the same in every field: rows and items as far as the count goes, any other array in full.
use Rattle.std.specs.Prelude.{Bool, eqb}
use Rattle.text.specs.Choice.{◌and◌, same_all, same_bytes}
use Rattle.surface.specs.declared.Third.{Third}
use Rattle.row.specs.declared.Row.{Row}
use Rattle.items.specs.declared.Item.{Item}
use Rattle.frontlines.specs.declared.Addresses.{Addresses}
use Rattle.frontlines.specs.declared.Filing.{Filing}
use Rattle.frontlines.specs.declared.Title.{Title}
use Rattle.body.specs.declared.Rows.{Rows}
use Rattle.items.specs.declared.Items.{Items}
use Rattle.items.specs.declared.Language.{Language}
use Rattle.body.specs.Rows.{rows_of}
use Rattle.items.specs.Parts.{items_of}

-- line 1
unfoldable pub same_addresses : Addresses → Addresses → Bool
same_addresses a b = eqb a.priority b.priority and eqb a.count b.count and same_bytes a.letters b.letters

-- line 2
unfoldable pub same_filing : Filing → Filing → Bool
same_filing a b = eqb a.time b.time and same_bytes a.originator b.originator

-- line 3 without its time
unfoldable pub same_title : Title → Title → Bool
same_title a b = eqb a.serial b.serial and same_bytes a.region b.region and same_bytes a.aerodrome b.aerodrome

-- a third of a runway
unfoldable pub same_third : Third → Third → Bool
same_third a b = eqb a.code b.code and eqb a.coverage b.coverage and eqb a.depth b.depth and eqb a.description b.description

-- a runway row
unfoldable pub same_row : Row → Row → Bool
same_row a b =
    eqb a.time b.time
    and eqb a.number b.number
    and eqb a.side b.side
    and eqb a.width b.width
    and same_all same_third a.thirds b.thirds

-- the rows of a record: as many, and the same one by one
unfoldable pub same_rows : Rows → Rows → Bool
same_rows a b = eqb a.count b.count and same_all same_row (rows_of a) (rows_of b)

-- the letter of an item and its numbers
unfoldable pub same_numbers : Item → Item → Bool
same_numbers a b =
    eqb a.letter b.letter
    and eqb a.number b.number
    and eqb a.side b.side
    and eqb a.amount b.amount
    and eqb a.edge b.edge
    and eqb a.count b.count

-- an awareness item
unfoldable pub same_item : Item → Item → Bool
same_item a b = same_numbers a b and same_bytes a.taxiways b.taxiways and same_bytes a.name b.name

-- the items of a record: as many, and the same one by one
unfoldable pub same_items : Items → Items → Bool
same_items a b = eqb a.count b.count and same_all same_item (items_of a) (items_of b)

-- the plain language of a record
unfoldable pub same_language : Language → Language → Bool
same_language a b = eqb a.length b.length and same_bytes a.bytes b.bytes
