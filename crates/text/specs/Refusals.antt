-- Why something is refused, by number: document 01, "Refusal numbers". 0 means accepted, taken or written.
use Rattle.std.specs.Prelude.{ℕ}
use Rattle.text.specs.declared.refusal.Refusal.{Refusal}
use Rattle.text.specs.declared.refusal.Refusal.TheVariants.{TooLong, Line1Or2, Line3, Outline, NoRow, NinthRow, RunwayTwice, WrongItems, WrongLanguage, SerialsDiffer, AerodromesDiffer, NotLatestTime, InvalidRecord, BufferTooShort, OutOfRange, Contradiction, WrongBoard, NotOnBoard, InvalidRow, NotLater, NoReport, OthersRunway, NoDesk, WrongRunway, WrongCodes, WrongCoverageOrDepth, WrongDescriptions, WrongWidth, RunwaysDiffer, RecordCutShort, NumberForm, RadioValue}

-- "message over 4,096 bytes"
abbrev pub too_long : ℕ
too_long = 1

-- "line 1 or 2"
abbrev pub line_one_or_two : ℕ
line_one_or_two = 2

-- "line 3"
abbrev pub line_three : ℕ
line_three = 3

-- "line 4 or 5; no row; a line or `)` missing; bytes after the end"
abbrev pub outline : ℕ
outline = 4

-- "a row's own rules": of a row's groups, the time (request 2)
abbrev pub no_row : ℕ
no_row = 5

-- "a ninth line that is not empty where a row may stand"
abbrev pub ninth_row : ℕ
ninth_row = 6

-- "runway twice"
abbrev pub runway_twice : ℕ
runway_twice = 7

-- "awareness line: an item, order, repeat, a 33rd, or empty before `)`"
abbrev pub wrong_items : ℕ
wrong_items = 8

-- "plain language"
abbrev pub wrong_language : ℕ
wrong_language = 9

-- "serials differ"
abbrev pub serials_differ : ℕ
serials_differ = 10

-- "aerodromes differ"
abbrev pub aerodromes_differ : ℕ
aerodromes_differ = 11

-- "heading time not the latest"
abbrev pub not_latest_time : ℕ
not_latest_time = 12

-- "record invalid"
abbrev pub invalid_record : ℕ
invalid_record = 13

-- "buffer shorter than the text"
abbrev pub buffer_too_short : ℕ
buffer_too_short = 14

-- "observation out of range"
abbrev pub out_of_range : ℕ
out_of_range = 15

-- "observation .. contradictory"
abbrev pub contradiction : ℕ
contradiction = 16

-- "aerodrome or runway list wrong, or a board handed in that breaks its rules"
abbrev pub wrong_board : ℕ
wrong_board = 17

-- "runway not on the board"
abbrev pub not_on_board : ℕ
not_on_board = 18

-- "row invalid"
abbrev pub invalid_row : ℕ
invalid_row = 19

-- "not later than the row shown"
abbrev pub not_later : ℕ
not_later = 20

-- "board holds no report"
abbrev pub no_report : ℕ
no_report = 21

-- document 02, request 1: "runway belongs to the other desk"
abbrev pub others_runway : ℕ
others_runway = 22

-- "no such desk"
abbrev pub no_desk : ℕ
no_desk = 23

-- document 02, request 2: a row's "5 keeps the row's time; 24 runway"
abbrev pub wrong_runway : ℕ
wrong_runway = 24

-- "25 codes"
abbrev pub wrong_codes : ℕ
wrong_codes = 25

-- "26 coverage or depth, including a short row not allowed"
abbrev pub wrong_coverage_or_depth : ℕ
wrong_coverage_or_depth = 26

-- "27 descriptions"
abbrev pub wrong_descriptions : ℕ
wrong_descriptions = 27

-- "28 width or what follows"
abbrev pub wrong_width : ℕ
wrong_width = 28

-- document 02, request 5: "29 different runways"
abbrev pub runways_differ : ℕ
runways_differ = 29

-- document 02, request 7: "30 record cut short"
abbrev pub cut_short : ℕ
cut_short = 30

-- "31 a number with a last group of zero after another, or a third group with its high bit set"
abbrev pub number_form : ℕ
number_form = 31

-- "32 a value or row not valid, no row, over eight, a runway twice, or bytes left over"
abbrev pub radio_value : ℕ
radio_value = 32

-- the number of each
abbrev pub number : Refusal → ℕ
number TooLong = too_long
number Line1Or2 = line_one_or_two
number Line3 = line_three
number Outline = outline
number NoRow = no_row
number NinthRow = ninth_row
number RunwayTwice = runway_twice
number WrongItems = wrong_items
number WrongLanguage = wrong_language
number SerialsDiffer = serials_differ
number AerodromesDiffer = aerodromes_differ
number NotLatestTime = not_latest_time
number InvalidRecord = invalid_record
number BufferTooShort = buffer_too_short
number OutOfRange = out_of_range
number Contradiction = contradiction
number WrongBoard = wrong_board
number NotOnBoard = not_on_board
number InvalidRow = invalid_row
number NotLater = not_later
number NoReport = no_report
number OthersRunway = others_runway
number NoDesk = no_desk
number WrongRunway = wrong_runway
number WrongCodes = wrong_codes
number WrongCoverageOrDepth = wrong_coverage_or_depth
number WrongDescriptions = wrong_descriptions
number WrongWidth = wrong_width
number RunwaysDiffer = runways_differ
number RecordCutShort = cut_short
number NumberForm = number_form
number RadioValue = radio_value
