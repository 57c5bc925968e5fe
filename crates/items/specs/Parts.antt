-- Items and plain language as a record holds them: in an array, with zeros past the count.
use Rattle.std.specs.Prelude.{ℕ, List, cond, Bool, true, eqb, leb, length, take, drop}
use Rattle.text.specs.Choice.{◌and◌, all, is_empty}
use Rattle.text.specs.Arrays.{pad, is_zero}
use Rattle.items.specs.declared.Item.{Item}
use Rattle.items.specs.Awareness.{most_items, valid_items, blank_item, is_blank_item}
use Rattle.items.specs.Language.{most_language, valid_language}
use Rattle.items.specs.declared.Items.{Items}
use Rattle.items.specs.declared.Language.{Language}

-- the items of a record: as many as its count says
abbrev pub items_of : Items → List Item
items_of i = take i.count i.items

-- the plain language of a record: as many bytes as its length says
abbrev pub language_of : Language → List ℕ
language_of l = take l.length l.bytes

-- a list in its array, zeros behind it
abbrev pub make_items : List Item → Items
make_items is = record { count = length is; items = pad most_items blank_item is }

-- "The record holds 400 bytes of plain language and its length", zeros past it
abbrev pub make_language : List ℕ → Language
make_language l = record { length = length l; bytes = pad most_language 0 l }

-- valid items, and "zeros past each count"
unfoldable pub holds_items : Items → Bool
holds_items i = leb i.count most_items and eqb (length i.items) most_items and valid_items (items_of i) and all is_blank_item (drop i.count i.items)

-- no plain language, or plain language that is valid
unfoldable pub none_or_language : List ℕ → Bool
none_or_language l = cond (is_empty l) true (valid_language l)

-- no plain language or valid one, and zeros past its length
unfoldable pub holds_language : Language → Bool
holds_language l = leb l.length most_language and eqb (length l.bytes) most_language and none_or_language (language_of l)
    and all is_zero (drop l.length l.bytes)
