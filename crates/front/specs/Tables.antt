-- Lines 1 to 5 as they are filled and put, evaluated.
use Rattle.std.specs.Prelude.{ℕ, ◌≡◌, refl, List, [], ◌∷◌, ◌++◌, map, Ok, Err, replicate}
use Prim.Native.String.{String}
use Rattle.std.proofs.Common.{lit≤}
use Rattle.text.specs.Choice.{◌and◌}
use Rattle.text.specs.Piece.{bytes, spell}
use Rattle.text.specs.Read.{Got, got, skip, read_text, read_many}
use Rattle.text.specs.Names.{read_count, read_name}
use Rattle.text.specs.Numbers.{digits, read_digits}
use Rattle.text.specs.Arrays.{slots, past_slots, flat}
use Rattle.text.specs.Lines.{Cut, cut, cuts, line_step, end_size, lines_size}
use Rattle.text.specs.Out.{Out, refuse, taken}
use Rattle.runway.specs.Time.{is_short_month, days_of, real_day, real_clock, real_time}
use Rattle.frontlines.specs.declared.Title.{Title}
use Rattle.frontlines.specs.Letters.{is_letters}
use Rattle.frontlines.specs.Addresses.{make_addresses, read_addresses, addresses_pieces}
use Rattle.frontlines.specs.Filing.{real_filing, read_filing, filing_pieces}
use Rattle.frontlines.specs.Heading.{read_heading, read_serial_line, read_aerodrome, heading_pieces, serial_pieces, aerodrome_pieces}
use Rattle.text.specs.declared.refusal.Refusal.TheVariants.{Line1Or2}
use Rattle.front.specs.declared.Front.{Front}
use Rattle.front.specs.declared.Line.TheVariants.{First, Second, Third, Fourth, Fifth}
use Rattle.front.specs.Places.{time_on, serial_on}
use Rattle.front.specs.Code.Front.{blank_front, with_addresses, with_filing, with_heading, with_serial, with_aerodrome, front_count, fill_line, line_refusal}
use Rattle.front.specs.Code.Front.{Opening, unopened, number_of, next_line, fill_lines, FrontHeld, front_text}

abbrev title : Title
title = record { region = bytes "XQ"; serial = 7; aerodrome = bytes "XQAA" }

-- the front of the message below
abbrev full : Front
full = record {
  addresses = make_addresses 1 (bytes "XQAAYNYX" ∷ []);
  filing = record { time = 120645; originator = bytes "XQAAYNYX" };
  title = title;
  time =
      1120640;
  serial = 7;
  aerodrome = bytes "XQAA";
}

abbrev message : List ℕ
message = bytes "GG XQAAYNYX" ++ (10 ∷ bytes "120645 XQAAYNYX") ++ (10 ∷ bytes "SWXQ0007 XQAA 01120640") ++ (10 ∷ bytes "(SNOWTAM 0007") ++ (10 ∷ bytes "XQAA")

-- a line by its place, read into a blank front
abbrev line : ℕ → String → Got Front
line k s = fill_line k blank_front (bytes s)

-- so many lines, and what is left
abbrev read : List ℕ → Out (Opening × List Cut)
read m = fill_lines front_count 0 unopened (cuts m)

-- lines 3, 4 and 5 of the message below, in a longer one
abbrev line_three : List ℕ → Cut
line_three behind = cut (bytes "SWXQ0007 XQAA 01120640") ((10 ∷ bytes "(SNOWTAM 0007") ++ (10 ∷ bytes "XQAA") ++ behind)

abbrev line_four : List ℕ → Cut
line_four behind = cut (bytes "(SNOWTAM 0007") ((10 ∷ bytes "XQAA") ++ behind)

abbrev line_five : List ℕ → Cut
line_five behind = cut (bytes "XQAA") behind

pub record Fronts : Type 0 where
  blank : blank_front ≡ record {
    addresses = record { priority = 0; count = 0; letters = replicate 64 0 };
    filing =
        record { time = 0; originator = replicate 8 0 };
    title = record { region = 0 ∷ 0 ∷ []; serial = 0; aerodrome = replicate 4 0 };
    time = 0;
    serial = 0;
    aerodrome = replicate 4 0;
  }
  first : line 0 "GG XQAAYNYX" ≡ got (with_addresses blank_front full.addresses) []
  second : line 1 "120645 XQAAYNYX" ≡ got (with_filing blank_front full.filing) []
  third : line 2 "SWXQ0007 XQAA 01120640" ≡ got (with_heading blank_front (record { title = title; time = 1120640 })) []
  fourth : line 3 "(SNOWTAM 0007" ≡ got (with_serial blank_front 7) []
  fifth : line 4 "XQAA" ≡ got (with_aerodrome blank_front (bytes "XQAA")) []
  -- "A missing line 1 or 2 gives 2, a missing line 3 gives 3, any later one 4", and so does a line that does not fit
  refusals : map line_refusal (0 ∷ 1 ∷ 2 ∷ 3 ∷ 4 ∷ []) ≡ 2 ∷ 2 ∷ 3 ∷ 4 ∷ 4 ∷ []
  all_lines : read (message ++ (10 ∷ bytes "0112"))
      ≡ taken (
        record { front = full; third = line_three (10 ∷ bytes "0112"); fourth = line_four (10 ∷ bytes "0112"); fifth = line_five (10 ∷ bytes "0112") },
        cut (bytes "0112") [] ∷ [],
      )
  -- "for a missing line .. the message's length", "For lines .. the line's first byte"
  missing : map read ([] ∷ bytes "GG XQAAYNYX" ∷ (bytes "GG XQAAYNYX" ++ (10 ∷ bytes "120645 XQAAYNYX")) ∷ []) ≡ refuse 2 [] ∷ refuse 2 [] ∷ refuse 3 [] ∷ []
  misfits : map read (bytes "GG" ∷ (bytes "GG XQAAYNYX" ++ (13 ∷ 10 ∷ bytes "1 X" ++ (10 ∷ bytes "SW"))) ∷ [])
      ≡ refuse 2 (bytes "GG") ∷ refuse 2 (bytes "1 X" ++ (10 ∷ bytes "SW")) ∷ []
  -- the places of 12 and 10 in lines with other spacing
  times : time_on (cut (bytes "SWXQ0007   XQAA  01120640") (10 ∷ [])) ≡ bytes "01120640" ++ (10 ∷ [])
  serials : serial_on (cut (bytes "(SNOWTAM   0007") (13 ∷ 10 ∷ [])) ≡ bytes "0007" ++ (13 ∷ 10 ∷ [])
  places : map number_of (First ∷ Second ∷ Third ∷ Fourth ∷ Fifth ∷ []) ≡ 0 ∷ 1 ∷ 2 ∷ 3 ∷ 4 ∷ []
  answered : FrontHeld message (Ok (record { front = full; next = 69 }))
  refused : FrontHeld [] (Err (record { refusal = Line1Or2; place = 0 }))
  written : front_text full.addresses full.filing title 1120640 ≡ message

pub fronts : Fronts
unfolding ◌and◌ line_step end_size lines_size spell skip read_text read_many read_count read_name read_digits digits slots past_slots flat cuts is_short_month days_of real_day real_clock real_time
    is_letters read_addresses addresses_pieces real_filing read_filing filing_pieces read_heading read_serial_line read_aerodrome heading_pieces serial_pieces
    aerodrome_pieces fill_line line_refusal next_line fill_lines
fronts = record {
  blank = refl;
  first = refl;
  second = refl;
  third = refl;
  fourth = refl;
  fifth = refl;
  refusals = refl;
  all_lines = refl;
  missing = refl;
  misfits = refl;
  times = refl;
  serials = refl;
  places = refl;
  answered = record { within = lit≤ tt; opening = record { front = full; third = line_three []; fourth = line_four []; fifth = line_five [] }; fronts = refl; says = refl; behind = refl };
  refused = record { within = lit≤ tt; says = refl };
  written = refl;
}
