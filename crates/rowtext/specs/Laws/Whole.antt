-- The reading of a row as one text, all its groups first and its rules at the end, as the laws of typing want it.
-- Nobody has to believe it: a line that is read so is a typed row, a typed row is read (Laws/Row), and it is what `find_row` takes (Laws/Same).
use Rattle.std.specs.Prelude.{ℕ, List}
use Rattle.text.specs.Read.{Got, whole, read_seq, read_as, read_if, read_or, read_bind, read_gap}
use Rattle.text.specs.Numbers.{read_digits}
use Rattle.runway.specs.Runway.{read_runway}
use Rattle.thirds.specs.Groups.{Three, read_group}
use Rattle.thirds.specs.declared.Group.TheVariants.{Codes, Coverages, Depths, Descriptions}
use Rattle.row.specs.Row.{is_short, valid_row}
use Rattle.row.specs.declared.Row.{Row}
use Rattle.rowtext.specs.Reading.{Rest, make_thirds, all_nr, Groups, make_row, read_width}

-- "both stand"
unfoldable pub read_full : List ℕ → Got Rest
read_full = read_seq (read_group Coverages) (read_seq (read_group Depths) (read_group Descriptions))

-- descriptions alone, only where that makes a short row
unfoldable pub read_short : Three → List ℕ → Got Rest
read_short code = read_if (λ rest. is_short (make_thirds code rest)) (read_as (λ description. (all_nr, (all_nr, description))) (read_group Descriptions))

-- both groups stand (under freedom (d) in a short row too), or neither
abbrev pub read_rest : Three → List ℕ → Got Rest
read_rest code = read_or read_full (read_short code)

-- the groups of a row, one behind the other
abbrev pub read_groups : List ℕ → Got Groups
read_groups = read_seq (read_digits 8) (read_seq (read_gap read_runway) (read_bind (read_group Codes) (λ code. read_seq (read_rest code) read_width)))

-- a row at the front of a message, and its own rules
unfoldable pub read_row : List ℕ → Got Row
read_row = read_if valid_row (read_as make_row read_groups)

-- a line that is a row
abbrev pub whole_row : List ℕ → Got Row
whole_row line = whole (read_row line)
