-- The radio record: document 02, request 7.
use Rattle.std.specs.Prelude.{ℕ, zero, suc, List, [], ◌∷◌, ◌++◌, Bool, not, leb, length}
use Rattle.text.specs.Choice.{◌and◌, all, is_empty}
use Rattle.text.specs.Refusals.{radio_value, invalid_row, buffer_too_short}
use Rattle.radio.specs.Outcome.{Outcome, taken, next, need}
use Rattle.row.specs.declared.Row.{Row}
use Rattle.row.specs.Row.{blank_row, valid_row}
use Rattle.body.specs.Rows.{most_rows, is_among, new_runways}
use Rattle.radio.specs.Number.{Part, number_bytes, read_number}
use Rattle.radio.specs.Fields.{order, row_numbers, read_fields}

-- what f makes of each, one behind the other
unfoldable pub each : {A B : Type 0} → (A → List B) → List A → List B
each f [] = []
each f (a ∷ as') = f a ++ each f as'

-- "row count; for each row ..": the numbers of a list of rows
unfoldable pub list_numbers : List Row → List ℕ
list_numbers rows = length rows ∷ each row_numbers rows

-- the bytes of a row
abbrev pub row_bytes : Row → List ℕ
row_bytes r = each number_bytes (row_numbers r)

-- the record of a list of rows
unfoldable pub radio_record : List Row → List ℕ
radio_record rows = each number_bytes (list_numbers rows)

-- "no row, over eight"
abbrev pub is_count : ℕ → Bool
is_count n = leb 1 n and leb n most_rows

-- a list that has a record: 1 to 8 valid rows, no runway twice
unfoldable pub sendable : List Row → Bool
sendable rows = is_count (length rows) and all valid_row rows and new_runways [] rows

-- a row: its numbers, and its validity "judged after its width"
abbrev pub read_row : List ℕ → Outcome (Part Row)
read_row m = next (read_fields order blank_row m) (λ p. need radio_value (valid_row p.value) (taken p))

-- n more rows behind those seen, none of a runway seen, and nothing behind them
unfoldable pub read_rows : ℕ → List Row → List ℕ → Outcome (List Row)
read_rows zero seen m = need radio_value (is_empty m) (taken seen)
read_rows (suc n) seen m = next (read_row m) (λ p. need radio_value (not (is_among p.value seen)) (read_rows n (seen ++ (p.value ∷ [])) p.rest))

-- the rows of a record, or the refusal "first met from the left"
unfoldable pub read_record : List ℕ → Outcome (List Row)
read_record m = next (read_number m) (λ p. need radio_value (is_count p.value) (read_rows p.value [] p.rest))

-- "32 for no row or over eight, 19 for an invalid row, 32 for a runway twice, then 14"
unfoldable pub write_record : ℕ → List Row → Outcome (List ℕ)
write_record room rows =
    need radio_value (is_count (length rows))
    (need invalid_row (all valid_row rows)
    (need radio_value (new_runways [] rows)
    (need buffer_too_short (leb (length (radio_record rows)) room)
    (taken (radio_record rows)))))
