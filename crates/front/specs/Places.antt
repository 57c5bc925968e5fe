-- Where lines that disagree are told to be wrong: "for 10, 11 and 12 the later serial, the later aerodrome and the heading time".
use Rattle.std.specs.Prelude.{ℕ, List, ◌++◌}
use Rattle.text.specs.Piece.{bytes}
use Rattle.text.specs.Read.{skip, left_by, read_text, read_seq, read_gap}
use Rattle.text.specs.Lines.{Cut, cut}
use Rattle.frontlines.specs.Letters.{read_letters}
use Rattle.frontlines.specs.Heading.{aerodrome_size, read_designator}

-- "the heading time": what is left behind the designator and the aerodrome of line 3
abbrev pub time_on : Cut → List ℕ
time_on (cut t behind) = skip (left_by (read_seq read_designator (read_gap (read_letters aerodrome_size)) t)) ++ behind

-- "the later serial": what is left behind `(SNOWTAM` in line 4; "the later aerodrome" is line 5
abbrev pub serial_on : Cut → List ℕ
serial_on (cut t behind) = left_by (read_text (bytes "(SNOWTAM ") t) ++ behind
