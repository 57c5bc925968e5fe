-- Lines 3, 4 and 5: the heading, the serial again, the aerodrome again.
use Rattle.std.specs.Prelude.{ℕ, List, Bool, leb}
use Rattle.text.specs.Choice.{◌and◌}
use Rattle.text.specs.Piece.{Piece, ◌then◌, space, bytes, words, verbatim}
use Rattle.text.specs.Read.{Got, read_as, read_if, read_seq, read_after, read_gap}
use Rattle.text.specs.Numbers.{digits, read_digits}
use Rattle.runway.specs.Time.{real_time}
use Rattle.frontlines.specs.Letters.{read_letters, is_letters}
use Rattle.frontlines.specs.declared.Title.{Title}
use Rattle.frontlines.specs.declared.Heading.{Heading}

-- "two letters"
abbrev pub region_size : ℕ
region_size = 2

-- "the aerodrome, four letters"
abbrev pub aerodrome_size : ℕ
aerodrome_size = 4

-- "a serial 0001 to 9999"
abbrev pub is_serial : ℕ → Bool
is_serial n = leb 1 n and leb n 9999

-- its four digits
abbrev pub read_serial : List ℕ → Got ℕ
read_serial = read_if is_serial (read_digits 4)

-- "`SW`, two letters and a serial 0001 to 9999 without gaps"
abbrev pub designator_pieces : List ℕ → ℕ → List Piece
designator_pieces region serial = words "SW" then verbatim region then digits 4 serial

-- the same read
abbrev pub read_designator : List ℕ → Got (List ℕ × ℕ)
read_designator = read_after (bytes "SW") (read_seq (read_letters region_size) read_serial)

-- "an observation time"
abbrev pub read_time : List ℕ → Got ℕ
read_time = read_if real_time (read_digits 8)

-- 3. "`SW`, two letters and a serial 0001 to 9999 without gaps; the aerodrome, four letters; an observation time": the line's text
unfoldable pub heading_pieces : Heading → List Piece
heading_pieces h = designator_pieces h.title.region h.title.serial then space then verbatim h.title.aerodrome then space then digits 8 h.time

-- what the groups say, by name
abbrev pub make_heading : (List ℕ × ℕ) × (List ℕ × ℕ) → Heading
make_heading p = record { title = record { region = p.0.0; serial = p.0.1; aerodrome = p.1.0 }; time = p.1.1 }

-- what line 3 says
unfoldable pub read_heading : List ℕ → Got Heading
read_heading = read_as make_heading (read_seq read_designator (read_seq (read_gap (read_letters aerodrome_size)) (read_gap read_time)))

-- two letters, a serial and four letters
unfoldable pub valid_title : Title → Bool
valid_title t = is_letters region_size t.region and is_serial t.serial and is_letters aerodrome_size t.aerodrome

-- a valid title, and a real time
unfoldable pub valid_heading : Heading → Bool
valid_heading h = valid_title h.title and real_time h.time

-- 4. "`(SNOWTAM` and the serial again"
unfoldable pub serial_pieces : ℕ → List Piece
serial_pieces n = words "(SNOWTAM " then digits 4 n

-- the same read
unfoldable pub read_serial_line : List ℕ → Got ℕ
read_serial_line = read_after (bytes "(SNOWTAM ") read_serial

-- 5. "The aerodrome again"
unfoldable pub aerodrome_pieces : List ℕ → List Piece
aerodrome_pieces a = verbatim a

-- the same read
unfoldable pub read_aerodrome : List ℕ → Got (List ℕ)
read_aerodrome = read_letters aerodrome_size
