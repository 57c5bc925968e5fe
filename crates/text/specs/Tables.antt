-- The values of the definitions, evaluated: a changed numeral or word fails here.
use Rattle.std.specs.Prelude.{ℕ, zero, suc, ◌≡◌, refl, List, [], ◌∷◌, map, cond, Bool, true, false, None, Some}
use Rattle.text.specs.Code.Held.{given, behind, bytes_of, is_unfed, starts_with, low_first, is_byte, Eight}
use Rattle.text.specs.Names.{is_space, is_letter, is_name, is_mark, is_plain_byte, in_class, read_count, run, past, read_name, name_at}
use Rattle.text.specs.Choice.{◌and◌, is_empty}
use Rattle.text.specs.Piece.{byte, gap, loose, end, last, nr_groups, bytes, spell, words, verbatim, canonical, nr_text}
use Rattle.text.specs.Read.{misfit, got, skip, read_text, read_gap, read_loose, read_many, whole}
use Rattle.text.specs.Numbers.{is_digit, read_digits, digits, number, read_number}
use Rattle.text.specs.Lines.{lines, cut, onward, cuts, end_size, line_size, line_step, lines_size, closed, all_but_last, line_text, beyond, ended}
use Rattle.text.specs.Out.{refuse, taken, place, at_end}
use Rattle.text.specs.Put.{told, farthest}
use Rattle.text.specs.Arrays.{pad, slots, past_slots, flat}
use Rattle.text.specs.declared.Class.TheVariants.{Letters, Names}
use Rattle.text.specs.declared.Found.{Found}
use Rattle.std.specs.Prelude.{Ok, Err}
use Rattle.text.specs.Refusals.{number as refusal_number}
use Rattle.text.specs.Code.Writes.{as_written}
use Rattle.text.specs.declared.refusal.Refusal.TheVariants.{TooLong, Line1Or2, Line3, Outline, NoRow, NinthRow, RunwayTwice, WrongItems, WrongLanguage, SerialsDiffer, AerodromesDiffer, NotLatestTime, InvalidRecord, BufferTooShort, OutOfRange, Contradiction, WrongBoard, NotOnBoard, InvalidRow, NotLater, NoReport, OthersRunway, NoDesk, WrongRunway, WrongCodes, WrongCoverageOrDepth, WrongDescriptions, WrongWidth, RunwaysDiffer, RecordCutShort, NumberForm, RadioValue}

-- the bytes below n that are of a class, from the highest down
unfoldable pub class_below : ℕ → (ℕ → Bool) → List ℕ
class_below zero p = []
class_below (suc n) p = cond (p n) (n ∷ class_below n p) (class_below n p)

-- the classes of bytes, each over all 256
pub record Classes : Type 0 where
  pub digit : class_below 256 is_digit ≡ bytes "9876543210"
  pub letter : class_below 256 is_letter ≡ bytes "ZYXWVUTSRQPONMLKJIHGFEDCBA"
  pub name : class_below 256 is_name ≡ bytes "ZYXWVUTSRQPONMLKJIHGFEDCBA9876543210"
  pub language : class_below 256 is_plain_byte ≡ bytes "ZYXWVUTSRQPONMLKJIHGFEDCBA:9876543210/.-,+ "
  pub zeroth : class_below 256 (in_class Letters) ≡ class_below 256 is_letter
  pub first : class_below 256 (in_class Names) ≡ class_below 256 is_name

pub classes : Classes
unfolding class_below is_mark in_class
classes = record { digit = refl; letter = refl; name = refl; language = refl; zeroth = refl; first = refl }

-- what the writer gives for each piece
pub record Canonical : Type 0 where
  pub each : canonical (byte 65 ∷ gap ∷ loose ∷ end ∷ last ∷ nr_groups ∷ []) ≡ 65 ∷ 32 ∷ 32 ∷ 10 ∷ 10 ∷ []
  pub spelled : words "DRY SNOW" ≡ byte 68 ∷ byte 82 ∷ byte 89 ∷ gap ∷ byte 83 ∷ byte 78 ∷ byte 79 ∷ byte 87 ∷ []
  pub as-it-is : verbatim (bytes "A B") ≡ byte 65 ∷ byte 32 ∷ byte 66 ∷ []
  pub nr : canonical nr_text ≡ bytes " NR/NR/NR NR/NR/NR"

pub writes : Canonical
unfolding spell
writes = record { each = refl; spelled = refl; as-it-is = refl; nr = refl }

-- fixed texts, gaps, numbers and names at the front of a message
pub record Readings : Type 0 where
  pub spaces : skip (bytes "   A B") ≡ bytes "A B"
  pub word : read_text (bytes "DRY SNOW") (bytes "DRY   SNOW/") ≡ got tt (bytes "/")
  pub joined : read_text (bytes "DRY SNOW") (bytes "DRYSNOW/") ≡ misfit
  pub cut : read_text (bytes "DRY SNOW") (bytes "DRY SNO") ≡ misfit
  pub gapped : read_gap (read_digits 2) (bytes "  07L") ≡ got 7 (bytes "L")
  pub no_gap : read_gap (read_digits 2) (bytes "07L") ≡ misfit
  pub any-gap : (read_loose (read_digits 2) (bytes "07L") ≡ got 7 (bytes "L")) × (read_loose (read_digits 2) (bytes "  07L") ≡ got 7 (bytes "L"))
  pub few-digits : read_digits 4 (bytes "007") ≡ misfit
  pub short-number : read_number 2 (bytes "99/") ≡ got 99 (bytes "/")
  pub long-number : read_number 2 (bytes "100/") ≡ got 100 (bytes "/")
  pub leading-zero : read_number 2 (bytes "099/") ≡ got 9 (bytes "9/")
  pub eight : read_count is_letter 8 (bytes "XQAAYNYX X") ≡ got (bytes "XQAAYNYX") (bytes " X")
  pub seven : read_count is_letter 8 (bytes "XQAAYNY X") ≡ misfit
  pub longest : (run is_name (bytes "A1B C") ≡ bytes "A1B") × (past is_name (bytes "A1B C") ≡ bytes " C")
  pub in_order : (read_name (name_at ("DRY" ∷ "DRY SNOW" ∷ [])) (1 ∷ 0 ∷ []) (bytes "DRY SNOW") ≡ got 1 [])
      × (read_name (name_at ("DRY" ∷ "DRY SNOW" ∷ [])) (0 ∷ 1 ∷ []) (bytes "DRY SNOW") ≡ got 0 (bytes " SNOW"))
  pub up-to-two : read_many (read_gap (read_digits 1)) 2 (bytes " 1  2 3") ≡ got (1 ∷ 2 ∷ []) (bytes " 3")
  pub all-of-it : (whole (read_digits 2 (bytes "07")) ≡ got 7 []) × (whole (read_digits 2 (bytes "07L")) ≡ misfit)
  pub written : (canonical (digits 4 7) ≡ bytes "0007") × (canonical (number 2 9) ≡ bytes "09") × (canonical (number 2 99) ≡ bytes "99")
      × (canonical (number 2 100) ≡ bytes "100")

pub reads : Readings
unfolding skip read_text read_digits digits read_count run past read_name read_many
reads = record {
  spaces = refl;
  word = refl;
  joined = refl;
  cut = refl;
  gapped = refl;
  no_gap = refl;
  any-gap = (refl, refl);
  few-digits = refl;
  short-number = refl;
  long-number = refl;
  leading-zero = refl;
  eight = refl;
  seven = refl;
  longest = (refl, refl);
  in_order = (refl, refl);
  up-to-two = refl;
  all-of-it = (refl, refl);
  written = (refl, refl, refl, refl);
}

-- lines end at LF or CR LF, a CR elsewhere is text, and what follows the last LF is a line if it is not empty
pub record Lined : Type 0 where
  pub none : lines [] ≡ []
  pub mixed : lines (65 ∷ 10 ∷ 66 ∷ 13 ∷ 10 ∷ 67 ∷ []) ≡ (65 ∷ []) ∷ (66 ∷ []) ∷ (67 ∷ []) ∷ []
  pub empties : lines (10 ∷ 13 ∷ 10 ∷ []) ≡ [] ∷ [] ∷ []
  pub returns : lines (65 ∷ 13 ∷ 13 ∷ 10 ∷ 13 ∷ 66 ∷ 13 ∷ []) ≡ (65 ∷ 13 ∷ []) ∷ (13 ∷ 66 ∷ 13 ∷ []) ∷ []
  pub ends : map end_size ([] ∷ (10 ∷ []) ∷ (13 ∷ 10 ∷ []) ∷ (13 ∷ []) ∷ (65 ∷ 10 ∷ []) ∷ []) ≡ 0 ∷ 1 ∷ 2 ∷ 0 ∷ 0 ∷ []
  pub sizes : map line_size ((65 ∷ 10 ∷ 66 ∷ []) ∷ (65 ∷ 13 ∷ 10 ∷ []) ∷ (65 ∷ 13 ∷ []) ∷ [] ∷ []) ≡ 1 ∷ 1 ∷ 2 ∷ 0 ∷ []
  pub steps : map line_step ((65 ∷ 10 ∷ 66 ∷ []) ∷ (65 ∷ 13 ∷ 10 ∷ []) ∷ (65 ∷ 13 ∷ []) ∷ [] ∷ []) ≡ 2 ∷ 3 ∷ 2 ∷ 0 ∷ []
  pub closings : map closed (bytes "A)" ∷ bytes ")" ∷ bytes ")A" ∷ [] ∷ []) ≡ true ∷ true ∷ false ∷ false ∷ []
  pub texts : map line_text (bytes "A))" ∷ bytes ")" ∷ bytes ")A" ∷ []) ≡ bytes "A)" ∷ [] ∷ bytes ")A" ∷ []
  pub counted : map (λ n. lines_size n (65 ∷ 10 ∷ 66 ∷ 13 ∷ 10 ∷ 67 ∷ [])) (0 ∷ 1 ∷ 2 ∷ 3 ∷ 4 ∷ []) ≡ 0 ∷ 2 ∷ 5 ∷ 6 ∷ 6 ∷ []
  -- "bytes after the end": 4
  pub behind : (at_end {A = ℕ} [] 7 ≡ taken 7) × (at_end {A = ℕ} (cut [] (10 ∷ 65 ∷ []) ∷ []) 7 ≡ refuse 4 (10 ∷ 65 ∷ []))
  -- each line with its place
  pub cut_up : cuts (65 ∷ 10 ∷ 66 ∷ 13 ∷ 10 ∷ 13 ∷ 67 ∷ []) ≡ cut (65 ∷ []) (10 ∷ 66 ∷ 13 ∷ 10 ∷ 13 ∷ 67 ∷ []) ∷ cut (66 ∷ []) (13 ∷ 10 ∷ 13 ∷ 67 ∷ [])
      ∷ cut (13 ∷ 67 ∷ []) [] ∷ []
  pub placed : map (λ c. place (65 ∷ 10 ∷ 66 ∷ 13 ∷ 10 ∷ 67 ∷ []) (onward c)) (cuts (65 ∷ 10 ∷ 66 ∷ 13 ∷ 10 ∷ 67 ∷ [])) ≡ 0 ∷ 2 ∷ 5 ∷ []
  pub beyond-text : map (λ l. beyond l (10 ∷ [])) (bytes "A)" ∷ bytes ")A" ∷ []) ≡ (41 ∷ 10 ∷ []) ∷ (10 ∷ []) ∷ []
  pub under : canonical (ended (words "A" ∷ words "B" ∷ [])) ≡ (65 ∷ 10 ∷ 66 ∷ 41 ∷ 10 ∷ [])

pub lined : Lined
unfolding lines cuts end_size line_size line_step lines_size closed all_but_last ended spell
lined = record {
  none = refl;
  mixed = refl;
  empties = refl;
  returns = refl;
  ends = refl;
  sizes = refl;
  steps = refl;
  closings = refl;
  texts = refl;
  counted = refl;
  behind = (refl, refl);
  cut_up = refl;
  placed = refl;
  beyond-text = refl;
  under = refl;
}

-- lists in arrays, zeros behind
pub record Held : Type 0 where
  pub padded : pad {A = ℕ} 4 0 (7 ∷ 8 ∷ []) ≡ 7 ∷ 8 ∷ 0 ∷ 0 ∷ []
  pub slotted : (slots 2 2 (1 ∷ 2 ∷ 3 ∷ 4 ∷ 5 ∷ []) ≡ (1 ∷ 2 ∷ []) ∷ (3 ∷ 4 ∷ []) ∷ []) × (past_slots 2 2 (1 ∷ 2 ∷ 3 ∷ 4 ∷ 5 ∷ []) ≡ 5 ∷ [])
  pub flattened : flat ((1 ∷ 2 ∷ []) ∷ (3 ∷ []) ∷ []) ≡ 1 ∷ 2 ∷ 3 ∷ []
  pub empty : (is_empty {A = ℕ} [] ≡ true) × (is_empty {A = ℕ} (7 ∷ []) ≡ false)
  pub far : (told (7 ∷ []) 65537 ≡ 65537) × (told (7 ∷ []) 65538 ≡ 65537) × (farthest [] ≡ 65536)

pub held : Held
unfolding slots past_slots flat told
held = record { padded = refl; slotted = (refl, refl); flattened = refl; empty = (refl, refl); far = (refl, refl, refl) }

-- blocks of bytes that are looked at together
pub record Blocks : Type 0 where
  pub spaces : map is_space (31 ∷ 32 ∷ 33 ∷ []) ≡ false ∷ true ∷ false ∷ []
  pub unfed : map is_unfed (9 ∷ 10 ∷ 11 ∷ 13 ∷ []) ≡ true ∷ false ∷ true ∷ true ∷ []
  pub starting : map (λ n. starts_with n is_space (bytes "  A ")) (0 ∷ 1 ∷ 2 ∷ 3 ∷ 4 ∷ []) ≡ true ∷ true ∷ true ∷ false ∷ false ∷ []
  pub whole : map (λ n. starts_with n is_unfed (bytes "AB")) (2 ∷ 3 ∷ []) ≡ true ∷ false ∷ []
  pub bytes-end : map is_byte (0 ∷ 255 ∷ 256 ∷ []) ≡ true ∷ true ∷ false ∷ []
  pub eight : Eight (bytes " ABCDEFGHI") 1 5208208757389214273
  pub numbers : map low_first ([] ∷ (255 ∷ []) ∷ (1 ∷ 2 ∷ []) ∷ bytes "        " ∷ []) ≡ 0 ∷ 255 ∷ 513 ∷ 2314885530818453536 ∷ []

pub blocks : Blocks
unfolding ◌and◌ starts_with low_first
blocks = record { spaces = refl; unfed = refl; starting = refl; whole = refl; bytes-end = refl; eight = record { says = refl; bytes = refl }; numbers = refl }

-- what is found and the place behind it; nothing found is a misfit, and its place 0
pub record Nothing : Type 0 where
  pub found : given (λ (r : Found). r.value) (λ r. r.next) (65 ∷ 66 ∷ 67 ∷ []) (Some (record { value = 7; next = 2 })) ≡ got 7 (67 ∷ [])
  pub none : given (λ (r : Found). r.value) (λ r. r.next) (65 ∷ []) None ≡ misfit
  pub bytes : bytes_of (65 ∷ 66 ∷ 67 ∷ 68 ∷ []) (record { start = 1; next = 3 }) ≡ 66 ∷ 67 ∷ []
  pub end : behind (λ (r : Found). r.next) (Some (record { value = 7; next = 2 })) ≡ 2
  pub no_end : behind (λ (r : Found). r.next) None ≡ 0

pub nothing : Nothing
nothing = record { found = refl; none = refl; bytes = refl; end = refl; no_end = refl }

-- document 01's numbers, and what C is told of a writing
pub record Numbered : Type 0 where
  pub refusals : map refusal_number (TooLong ∷ Line1Or2 ∷ Line3 ∷ Outline ∷ NoRow ∷ NinthRow ∷ RunwayTwice ∷ WrongItems ∷ WrongLanguage ∷ SerialsDiffer ∷ AerodromesDiffer ∷ NotLatestTime ∷ InvalidRecord ∷ BufferTooShort ∷ OutOfRange ∷ Contradiction ∷ WrongBoard ∷ NotOnBoard ∷ InvalidRow ∷ NotLater ∷ NoReport ∷ OthersRunway ∷ NoDesk ∷ WrongRunway ∷ WrongCodes ∷ WrongCoverageOrDepth ∷ WrongDescriptions ∷ WrongWidth ∷ RunwaysDiffer ∷ RecordCutShort ∷ NumberForm ∷ RadioValue ∷ [])
      ≡ 1 ∷ 2 ∷ 3 ∷ 4 ∷ 5 ∷ 6 ∷ 7 ∷ 8 ∷ 9 ∷ 10 ∷ 11 ∷ 12 ∷ 13 ∷ 14 ∷ 15 ∷ 16 ∷ 17 ∷ 18 ∷ 19 ∷ 20 ∷ 21 ∷ 22 ∷ 23 ∷ 24 ∷ 25 ∷ 26 ∷ 27 ∷ 28 ∷ 29 ∷ 30 ∷ 31 ∷ 32 ∷ []
  pub taken : as_written (Ok 7) ≡ record { refusal = 0; length = 7 }
  pub refused : as_written (Err InvalidRow) ≡ record { refusal = 19; length = 0 }

pub numbered : Numbered
numbered = record { refusals = refl; taken = refl; refused = refl }
