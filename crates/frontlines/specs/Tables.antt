-- The values of the rules, evaluated: a changed numeral or word fails here.
use Rattle.std.specs.Prelude.{ℕ, ◌≡◌, refl, List, [], ◌∷◌, ◌++◌, map, Bool, true, false, None, Some, replicate}
use Prim.Native.String.{String}
use Rattle.text.specs.Choice.{◌and◌}
use Rattle.text.specs.Piece.{bytes, spell, canonical}
use Rattle.text.specs.Read.{Got, misfit, got, skip, read_text, read_many, whole}
use Rattle.text.specs.Names.{read_count, read_name}
use Rattle.text.specs.Numbers.{digits, read_digits}
use Rattle.text.specs.Arrays.{slots, past_slots, flat}
use Rattle.text.specs.Code.Held.{is_got}
use Rattle.runway.specs.Time.{is_short_month, days_of, real_day, real_clock, real_time}
use Rattle.frontlines.specs.Letters.{is_letters}
use Rattle.frontlines.specs.Addresses.{addresses_of, make_addresses, addresses_pieces, read_addresses, valid_addresses}
use Rattle.frontlines.specs.Filing.{real_filing, filing_pieces, read_filing, valid_filing}
use Rattle.frontlines.specs.declared.Heading.{Heading}
use Rattle.frontlines.specs.Heading.{read_designator, heading_pieces, read_heading, valid_title, valid_heading, serial_pieces, read_serial_line}
use Rattle.frontlines.specs.Heading.{aerodrome_pieces, read_aerodrome}
use Rattle.frontlines.specs.Code.Answers.{blank_addresses, blank_filing, blank_title, found, list_answer, region_at}

-- which of some lines are taken, each read whole
abbrev taken : {A : Type 0} → (List ℕ → Got A) → List String → List Bool
taken read lines = map (λ s. is_got (whole (read (bytes s)))) lines

-- "`GG` or `DD`, then 1 to 8 addresses of eight letters"
pub record AddressLines : Type 0 where
  pub priorities : taken read_addresses ("GG XQAAYNYX" ∷ "DD XQAAYNYX" ∷ "FF XQAAYNYX" ∷ "G XQAAYNYX" ∷ "GGG XQAAYNYX" ∷ "XQAAYNYX" ∷ "gg XQAAYNYX" ∷ [])
      ≡ true ∷ true ∷ false ∷ false ∷ false ∷ false ∷ false ∷ []
  pub some : taken read_addresses ("GG" ∷ "GG " ∷ "GG XQAAYNYX" ∷ "" ∷ []) ≡ false ∷ false ∷ true ∷ false ∷ []
  pub eight : taken read_addresses (
      "GG XQAAYNYA XQAAYNYB XQAAYNYC XQAAYNYD XQAAYNYE XQAAYNYF XQAAYNYG XQAAYNYH" ∷
      "GG XQAAYNYA XQAAYNYB XQAAYNYC XQAAYNYD XQAAYNYE XQAAYNYF XQAAYNYG XQAAYNYH XQAAYNYI" ∷ []) ≡ true ∷ false ∷ []
  pub letters : taken read_addresses ("GG XQAAYNY" ∷ "GG XQAAYNYX" ∷ "GG XQAAYNYXX" ∷ "GG XQAAYNY1" ∷ "GG XQAAYNY@" ∷ "GG AQAAYNYZ" ∷ "GG XQAAYNY[" ∷ [])
      ≡ false ∷ true ∷ false ∷ false ∷ false ∷ true ∷ false ∷ []
  pub spaces : taken read_addresses ("GG  XQAAYNYX   XQBBYOYX" ∷ "GGXQAAYNYX" ∷ " GG XQAAYNYX" ∷ "GG XQAAYNYX " ∷ "G G XQAAYNYX" ∷ "GG XQAA YNYX"
      ∷ "GG XQAAYNYX)" ∷ [])
      ≡ true ∷ false ∷ false ∷ false ∷ false ∷ false ∷ false ∷ []
  -- the same address twice is taken
  pub twice : taken read_addresses ("GG XQAAYNYX XQAAYNYX" ∷ []) ≡ true ∷ []
  pub says : whole (read_addresses (bytes "DD XQAAYNYX  XQBBYOYX")) ≡ got (make_addresses 2 (bytes "XQAAYNYX" ∷ bytes "XQBBYOYX" ∷ [])) []
  pub text : canonical (addresses_pieces (make_addresses 1 (bytes "XQAAYNYX" ∷ bytes "XQBBYOYX" ∷ []))) ≡ bytes "GG XQAAYNYX XQBBYOYX"
  pub held : addresses_of (make_addresses 1 (bytes "XQAAYNYX" ∷ bytes "XQBBYOYX" ∷ [])) ≡ bytes "XQAAYNYX" ∷ bytes "XQBBYOYX" ∷ []
  pub valid : map (λ p. valid_addresses (make_addresses p (bytes "XQAAYNYX" ∷ []))) (0 ∷ 1 ∷ 2 ∷ 3 ∷ []) ≡ false ∷ true ∷ true ∷ false ∷ []
  pub not_valid : map (λ as'. valid_addresses (make_addresses 1 as')) ([] ∷ (bytes "XQAAYNY" ∷ []) ∷ (bytes "XQAAYNY1" ∷ []) ∷ []) ≡ false ∷ false ∷ false ∷ []

pub address-lines : AddressLines
unfolding ◌and◌ spell skip read_text read_many read_count read_name slots past_slots flat is_letters addresses_pieces read_addresses valid_addresses
address-lines = record {
  priorities = refl;
  some = refl;
  eight = refl;
  letters = refl;
  spaces = refl;
  twice = refl;
  says = refl;
  text = refl;
  held = refl;
  valid = refl;
  not_valid = refl;
}

-- "Filing time ddhhmm (day 01 to 31, 00 to 23, 00 to 59) and one originator of eight letters"
pub record FilingLines : Type 0 where
  pub days : taken read_filing ("000645 XQAAYNYX" ∷ "010645 XQAAYNYX" ∷ "310645 XQAAYNYX" ∷ "320645 XQAAYNYX" ∷ []) ≡ false ∷ true ∷ true ∷ false ∷ []
  pub hours : taken read_filing ("120045 XQAAYNYX" ∷ "122345 XQAAYNYX" ∷ "122445 XQAAYNYX" ∷ []) ≡ true ∷ true ∷ false ∷ []
  pub minutes : taken read_filing ("120600 XQAAYNYX" ∷ "120659 XQAAYNYX" ∷ "120660 XQAAYNYX" ∷ []) ≡ true ∷ true ∷ false ∷ []
  pub digit-count : taken read_filing ("12064 XQAAYNYX" ∷ "1206450 XQAAYNYX" ∷ "0120645 XQAAYNYX" ∷ []) ≡ false ∷ false ∷ false ∷ []
  pub originators : taken read_filing ("120645 XQAAYNY" ∷ "120645 XQAAYNYXX" ∷ "120645 XQAAYNY1" ∷ "120645" ∷ "120645 XQAAYNYX XQAAYNYX" ∷ [])
      ≡ false ∷ false ∷ false ∷ false ∷ false ∷ []
  pub spaces : taken read_filing ("120645   XQAAYNYX" ∷ "120645XQAAYNYX" ∷ " 120645 XQAAYNYX" ∷ "120645 XQAAYNYX " ∷ "12 0645 XQAAYNYX" ∷ "120645 XQAAYNYX)"
      ∷ []) ≡ true ∷ false ∷ false ∷ false ∷ false ∷ false ∷ []
  pub says : whole (read_filing (bytes "010645  XQAAYNYX")) ≡ got (record { time = 10645; originator = bytes "XQAAYNYX" }) []
  pub text : canonical (filing_pieces (record { time = 10645; originator = bytes "XQAAYNYX" })) ≡ bytes "010645 XQAAYNYX"
  pub valid : map (λ t. valid_filing (record { time = t; originator = bytes "XQAAYNYX" })) (645 ∷ 10645 ∷ 310645 ∷ 320645 ∷ 122459 ∷ 122360 ∷ 1010645 ∷ [])
      ≡ false ∷ true ∷ true ∷ false ∷ false ∷ false ∷ false ∷ []
  pub not_valid : map (λ o. valid_filing (record { time = 10645; originator = bytes o })) ("XQAAYNY" ∷ "XQAAYNYX" ∷ "XQAAYNYXX" ∷ "XQAAYNY1" ∷ [])
      ≡ false ∷ true ∷ false ∷ false ∷ []

pub filing-lines : FilingLines
unfolding ◌and◌ skip read_text read_count read_digits digits real_clock is_letters real_filing filing_pieces read_filing valid_filing
filing-lines = record {
  days = refl;
  hours = refl;
  minutes = refl;
  digit-count = refl;
  originators = refl;
  spaces = refl;
  says = refl;
  text = refl;
  valid = refl;
  not_valid = refl;
}

abbrev example : Heading
example = record { title = record { region = bytes "XQ"; serial = 7; aerodrome = bytes "XQAA" }; time = 1120640 }

-- "`SW`, two letters and a serial 0001 to 9999 without gaps; the aerodrome, four letters; an observation time"
pub record HeadingLines : Type 0 where
  pub designators : taken read_heading ("SWXQ0007 XQAA 01120640" ∷ "SWX0007 XQAA 01120640" ∷ "SWXQQ0007 XQAA 01120640" ∷ "SNXQ0007 XQAA 01120640"
      ∷ "XQ0007 XQAA 01120640" ∷ "SWX10007 XQAA 01120640" ∷ [])
      ≡ true ∷ false ∷ false ∷ false ∷ false ∷ false ∷ []
  pub serials : taken read_heading ("SWXQ0000 XQAA 01120640" ∷ "SWXQ0001 XQAA 01120640" ∷ "SWXQ9999 XQAA 01120640" ∷ "SWXQ7 XQAA 01120640"
      ∷ "SWXQ10000 XQAA 01120640" ∷ []) ≡ false ∷ true ∷ true ∷ false ∷ false ∷ []
  pub no_gaps : taken read_heading ("SW XQ0007 XQAA 01120640" ∷ "SWXQ 0007 XQAA 01120640" ∷ "S WXQ0007 XQAA 01120640" ∷ []) ≡ false ∷ false ∷ false ∷ []
  pub gaps : taken read_heading ("SWXQ0007  XQAA   01120640" ∷ "SWXQ0007XQAA 01120640" ∷ "SWXQ0007 XQAA01120640" ∷ " SWXQ0007 XQAA 01120640"
      ∷ "SWXQ0007 XQAA 01120640 " ∷ []) ≡ true ∷ false ∷ false ∷ false ∷ false ∷ []
  pub aerodromes : taken read_heading ("SWXQ0007 XQA 01120640" ∷ "SWXQ0007 XQAAA 01120640" ∷ "SWXQ0007 XQA1 01120640" ∷ "SWZZ0007 XQAA 01120640" ∷ [])
      ≡ false ∷ false ∷ false ∷ true ∷ []
  pub times : taken read_heading ("SWXQ0007 XQAA 02290000" ∷ "SWXQ0007 XQAA 02300000" ∷ "SWXQ0007 XQAA 01122359" ∷ "SWXQ0007 XQAA 01122400"
      ∷ "SWXQ0007 XQAA 01120660" ∷ "SWXQ0007 XQAA 1120640" ∷ "SWXQ0007 XQAA" ∷ [])
      ≡ true ∷ false ∷ true ∷ false ∷ false ∷ false ∷ false ∷ []
  -- a fourth group in line 3 is 3, and so is `)` as the last byte
  pub ends : taken read_heading ("SWXQ0007 XQAA 01120640 XQAA" ∷ "SWXQ0007 XQAA 01120640)" ∷ "SWXQ0007 XQAA 011206400" ∷ []) ≡ false ∷ false ∷ false ∷ []
  pub says : whole (read_heading (bytes "SWXQ0007 XQAA  01120640")) ≡ got example []
  pub text : canonical (heading_pieces example) ≡ bytes "SWXQ0007 XQAA 01120640"
  pub valid : map (λ n. valid_title (record { region = bytes "XQ"; serial = n; aerodrome = bytes "XQAA" })) (0 ∷ 1 ∷ 9999 ∷ 10000 ∷ [])
      ≡ false ∷ true ∷ true ∷ false ∷ []
  pub real : map (λ t. valid_heading (record { title = example.title; time = t })) (2290000 ∷ 2300000 ∷ 1122359 ∷ 1122400 ∷ 0 ∷ [])
      ≡ true ∷ false ∷ true ∷ false ∷ false ∷ []
  pub regions : map (λ l. valid_title (record { region = bytes l; serial = 7; aerodrome = bytes "XQAA" })) ("X" ∷ "XQ" ∷ "XQQ" ∷ "X1" ∷ [])
      ≡ false ∷ true ∷ false ∷ false ∷ []
  pub places : map (λ l. valid_title (record { region = bytes "XQ"; serial = 7; aerodrome = bytes l })) ("XQA" ∷ "XQAA" ∷ "XQAAA" ∷ "XQA1" ∷ [])
      ≡ false ∷ true ∷ false ∷ false ∷ []

pub heading-lines : HeadingLines
unfolding ◌and◌ spell skip read_text read_count read_digits digits is_short_month days_of real_day real_clock real_time is_letters heading_pieces read_heading
    valid_title valid_heading
heading-lines = record {
  designators = refl;
  serials = refl;
  no_gaps = refl;
  gaps = refl;
  aerodromes = refl;
  times = refl;
  ends = refl;
  says = refl;
  text = refl;
  valid = refl;
  real = refl;
  regions = refl;
  places = refl;
}

-- "`(SNOWTAM` and the serial again" and "The aerodrome again"
pub record LastLines : Type 0 where
  pub serials : taken read_serial_line ("(SNOWTAM 0000" ∷ "(SNOWTAM 0001" ∷ "(SNOWTAM 0007" ∷ "(SNOWTAM 9999" ∷ "(SNOWTAM 7" ∷ "(SNOWTAM 00007" ∷ [])
      ≡ false ∷ true ∷ true ∷ true ∷ false ∷ false ∷ []
  pub spaces : taken read_serial_line ("(SNOWTAM   0007" ∷ "( SNOWTAM 0007" ∷ "(SNOWTAM0007" ∷ "(SNOW TAM 0007" ∷ " (SNOWTAM 0007" ∷ "(SNOWTAM 0007 " ∷ [])
      ≡ true ∷ false ∷ false ∷ false ∷ false ∷ false ∷ []
  pub forms : taken read_serial_line ("SNOWTAM 0007" ∷ "(SONWTAM 0007" ∷ "(SNOWTAM" ∷ "(SNOWTAM 0007)" ∷ "(snowtam 0007" ∷ [])
      ≡ false ∷ false ∷ false ∷ false ∷ false ∷ []
  pub serial : whole (read_serial_line (bytes "(SNOWTAM  0007")) ≡ got 7 []
  pub serial-text : canonical (serial_pieces 7) ≡ bytes "(SNOWTAM 0007"
  pub aerodromes : taken read_aerodrome ("XQA" ∷ "XQAA" ∷ "XQAAA" ∷ "XQA1" ∷ " XQAA" ∷ "XQAA " ∷ "XQAA)" ∷ "" ∷ [])
      ≡ false ∷ true ∷ false ∷ false ∷ false ∷ false ∷ false ∷ false ∷ []
  pub aerodrome : whole (read_aerodrome (bytes "XQAA")) ≡ got (bytes "XQAA") []
  pub aerodrome-text : canonical (aerodrome_pieces (bytes "XQAA")) ≡ bytes "XQAA"

pub last-lines : LastLines
unfolding ◌and◌ spell skip read_text read_count read_digits digits serial_pieces read_serial_line aerodrome_pieces read_aerodrome
last-lines = record {
  serials = refl;
  spaces = refl;
  forms = refl;
  serial = refl;
  serial-text = refl;
  aerodromes = refl;
  aerodrome = refl;
  aerodrome-text = refl;
}

-- "blank means all zero", and what is answered for a line that does not fit, and for one that does
pub record Answers : Type 0 where
  pub no-addresses : blank_addresses ≡ record { priority = 0; count = 0; letters = replicate 64 0 }
  pub no-filing : blank_filing ≡ record { time = 0; originator = replicate 8 0 }
  pub no-title : blank_title ≡ record { region = 0 ∷ 0 ∷ []; serial = 0; aerodrome = 0 ∷ 0 ∷ 0 ∷ 0 ∷ [] }
  pub nothing : found {A = Heading} misfit ≡ None
  pub heading : found (got example []) ≡ Some example
  pub no-list : list_answer misfit ≡ None
  pub list : list_answer (got (bytes "XQAAYNYX" ∷ bytes "XQBBYOYX" ∷ []) []) ≡ Some (2, bytes "XQAAYNYXXQBBYOYX" ++ replicate 48 0)
  -- the letters stand behind `SW`
  pub designated : read_designator (bytes "SWXQ0007 XQAA") ≡ got (region_at (bytes "SWXQ0007 XQAA"), 7) (bytes " XQAA")

pub answers : Answers
unfolding ◌and◌ spell skip read_text read_count read_digits flat
answers = record {
  no-addresses = refl;
  no-filing = refl;
  no-title = refl;
  nothing = refl;
  heading = refl;
  no-list = refl;
  list = refl;
  designated = refl;
}
