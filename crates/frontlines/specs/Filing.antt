-- Line 2: "Filing time ddhhmm (day 01 to 31, 00 to 23, 00 to 59) and one originator of eight letters".
use Rattle.std.specs.Prelude.{ℕ, ◌/◌, ◌%◌, List, Bool, leb}
use Rattle.text.specs.Choice.{◌and◌}
use Rattle.text.specs.Piece.{Piece, ◌then◌, space, verbatim}
use Rattle.text.specs.Read.{Got, read_as, read_if, read_seq, read_gap}
use Rattle.text.specs.Numbers.{digits, read_digits}
use Rattle.runway.specs.Time.{real_clock}
use Rattle.frontlines.specs.Letters.{read_letters, is_letters}
use Rattle.frontlines.specs.declared.Filing.{Filing}

-- "one originator of eight letters"
abbrev pub originator_size : ℕ
originator_size = 8

-- "day 01 to 31"
abbrev pub is_filing_day : ℕ → Bool
is_filing_day day = leb 1 day and leb day 31

-- "Filing time ddhhmm", compared with nothing: day 31 is always a day
unfoldable pub real_filing : ℕ → Bool
real_filing t = is_filing_day (t / 10000) and real_clock (t % 10000)

-- the line's text
unfoldable pub filing_pieces : Filing → List Piece
filing_pieces f = digits 6 f.time then space then verbatim f.originator

-- its six digits
abbrev pub read_filing_time : List ℕ → Got ℕ
read_filing_time = read_if real_filing (read_digits 6)

-- what the line says
unfoldable pub read_filing : List ℕ → Got Filing
read_filing = read_as (λ p. record { time = p.0; originator = p.1 }) (read_seq read_filing_time (read_gap (read_letters originator_size)))

-- a real filing time, and eight letters
unfoldable pub valid_filing : Filing → Bool
valid_filing f = real_filing f.time and is_letters originator_size f.originator
