-- The values of the rules, evaluated: a changed numeral or word fails here.
use Rattle.std.specs.Prelude.{ℕ, zero, suc, ◌≡◌, refl, List, [], ◌∷◌, ◌++◌, map, cond, Bool, true, false, not, replicate}
use Prim.Native.String.{String}
use Rattle.text.specs.Choice.{◌and◌}
use Rattle.text.specs.Piece.{bytes, canonical, spell}
use Rattle.text.specs.Read.{Got, misfit, got, skip, read_text, read_many}
use Rattle.text.specs.Names.{run, past, read_name, is_mark, is_plain_byte}
use Rattle.text.specs.Numbers.{read_digits, digits}
use Rattle.text.specs.Arrays.{slots, flat}
use Rattle.text.specs.Code.Held.{is_got}
use Rattle.runway.specs.Runway.{valid_runway}
use Rattle.items.specs.declared.Item.{Item}
use Rattle.items.specs.Item.{letters, letter_i, letter_j, letter_k, letter_l, letter_m, letter_n, letter_o, letter_p, letter_r, on_runway, on_taxiways}
use Rattle.items.specs.Item.{runway_fits, amount_fits, edge_fits, count_fits, is_taxiway, valid_slot, is_new, slots_fit, taxiways_fit, name_fits, numbers_fit}
use Rattle.items.specs.Item.{valid_item}
use Rattle.items.specs.ItemText.{item_text, item_pieces}
use Rattle.items.specs.ReadItem.{read_length, read_bank, read_neither, read_detail, read_taxiway, read_taxiways, read_apron, read_runway_form, read_taxi_form}
use Rattle.items.specs.ReadItem.{read_apron_form, read_bare_form, read_form, read_body, read_item, bare_item, taxi_item, apron_item, runway_item}
use Rattle.items.specs.Awareness.{valid_items, same_runway, other_apron, may_repeat, may_follow, in_order, sound_items, read_awareness, whole_awareness}
use Rattle.items.specs.Awareness.{awareness_pieces, is_blank, no_numbers, is_blank_item}
use Rattle.items.specs.Language.{last_is, valid_language}
use Rattle.items.specs.Parts.{holds_items, holds_language, none_or_language}

-- the line is taken
abbrev taken : String → Bool
taken s = is_got (whole_awareness (bytes s))

-- its canonical text
abbrev rewritten : Got (List Item) → List ℕ
rewritten misfit = []
rewritten (got is r) = canonical (awareness_pieces is)

abbrev all_taken : List String → Bool
all_taken [] = true
all_taken (s ∷ ss) = taken s and all_taken ss

abbrev none_taken : List String → Bool
none_taken [] = true
none_taken (s ∷ ss) = not (taken s) and none_taken ss

letter-bytes : letters ≡ letter_i ∷ letter_j ∷ letter_k ∷ letter_l ∷ letter_m ∷ letter_n ∷ letter_o ∷ letter_p ∷ letter_r ∷ []
letter-bytes = refl

-- the words of each item, and what is read of them
words-read : map read_item (
    bytes "RWY 36L REDUCED TO 100." ∷ bytes "DRIFTING SNOW." ∷ bytes "RWY 18 LOOSE SAND." ∷ bytes "RWY 01C CHEMICALLY TREATED."
    ∷ bytes "RWY 09R SNOWBANK LR07 FM CL."
    ∷ bytes "TWY A B12 SNOWBANK." ∷ bytes "RWY 09 ADJ SNOWBANK." ∷ bytes "TWY W POOR." ∷ bytes "ALL TWY POOR." ∷ bytes "APRON 2N POOR."
    ∷ bytes "ALL APRON POOR." ∷ [])
    ≡ got (runway_item ((36, 1), (letter_i, (0, 100)))) [] ∷ got (bare_item letter_j) [] ∷ got (runway_item ((18, 0), (letter_k, (0, 0)))) []
    ∷ got (runway_item ((1, 2), (letter_l, (0, 0)))) [] ∷ got (runway_item ((9, 3), (letter_m, (3, 7)))) []
    ∷ got (taxi_item (bytes "A" ∷ bytes "B12" ∷ [], letter_n)) []
    ∷ got (runway_item ((9, 0), (letter_o, (0, 0)))) [] ∷ got (taxi_item (bytes "W" ∷ [], letter_p)) [] ∷ got (bare_item letter_p) []
    ∷ got (apron_item (bytes "2N")) [] ∷ got (bare_item letter_r) [] ∷ []
unfolding read_awareness whole_awareness awareness_pieces in_order may_follow may_repeat other_apron same_runway read_item read_body read_form read_runway_form
    read_taxi_form read_apron_form read_bare_form read_detail read_length read_bank read_neither read_taxiway read_taxiways read_apron valid_item numbers_fit runway_fits
    amount_fits edge_fits count_fits is_taxiway valid_slot is_new slots_fit taxiways_fit name_fits on_runway on_taxiways item_text item_pieces valid_runway read_digits
    digits read_name run past read_text skip spell ◌and◌ read_many slots flat
words-read = refl

-- document 01's line: freedom (c), and one space where the writer puts it
example : rewritten (whole_awareness (bytes "DRIFTING SNOW.TWY A W SNOWBANK.")) ≡ bytes "DRIFTING SNOW. TWY A W SNOWBANK."
unfolding read_awareness whole_awareness awareness_pieces in_order may_follow may_repeat other_apron same_runway read_item read_body read_form read_runway_form
    read_taxi_form read_apron_form read_bare_form read_detail read_length read_bank read_neither read_taxiway read_taxiways read_apron valid_item numbers_fit runway_fits
    amount_fits edge_fits count_fits is_taxiway valid_slot is_new slots_fit taxiways_fit name_fits on_runway on_taxiways item_text item_pieces valid_runway read_digits
    digits read_name run past read_text skip spell ◌and◌ read_many slots flat
example = refl

-- numbers on both sides of each rule
numbers-taken : all_taken (
    "RWY 01 REDUCED TO 100." ∷ "RWY 36 REDUCED TO 9999." ∷ "RWY 36R REDUCED TO 1000." ∷ "RWY 18L LOOSE SAND." ∷ "RWY 18C CHEMICALLY TREATED."
    ∷ "RWY 18 ADJ SNOWBANK." ∷ "RWY 18 SNOWBANK L01 FM CL." ∷ "RWY 18 SNOWBANK R99 FM CL." ∷ []) ≡ true
unfolding read_awareness whole_awareness awareness_pieces in_order may_follow may_repeat other_apron same_runway read_item read_body read_form read_runway_form
    read_taxi_form read_apron_form read_bare_form read_detail read_length read_bank read_neither read_taxiway read_taxiways read_apron valid_item numbers_fit runway_fits
    amount_fits edge_fits count_fits is_taxiway valid_slot is_new slots_fit taxiways_fit name_fits on_runway on_taxiways item_text item_pieces valid_runway read_digits
    digits read_name run past read_text skip spell ◌and◌ read_many slots flat
numbers-taken = refl

numbers-refused : none_taken (
    "RWY 00 REDUCED TO 100." ∷ "RWY 37 REDUCED TO 100." ∷ "RWY 19 LOOSE SAND." ∷ "RWY 19 CHEMICALLY TREATED." ∷ "RWY 19 SNOWBANK L01 FM CL."
    ∷ "RWY 19 ADJ SNOWBANK."
    ∷ "RWY 01 REDUCED TO 99." ∷ "RWY 01 REDUCED TO 099." ∷ "RWY 01 REDUCED TO 0100." ∷ "RWY 01 REDUCED TO 10000."
    ∷ "RWY 18 SNOWBANK L00 FM CL." ∷ "RWY 18 SNOWBANK L1 FM CL." ∷ "RWY 18 SNOWBANK L100 FM CL." ∷ "RWY 18 SNOWBANK C01 FM CL."
    ∷ "RWY 18 SNOWBANK RL01 FM CL." ∷ []) ≡ true
unfolding read_awareness whole_awareness awareness_pieces in_order may_follow may_repeat other_apron same_runway read_item read_body read_form read_runway_form
    read_taxi_form read_apron_form read_bare_form read_detail read_length read_bank read_neither read_taxiway read_taxiways read_apron valid_item numbers_fit runway_fits
    amount_fits edge_fits count_fits is_taxiway valid_slot is_new slots_fit taxiways_fit name_fits on_runway on_taxiways item_text item_pieces valid_runway read_digits
    digits read_name run past read_text skip spell ◌and◌ read_many slots flat
numbers-refused = refl

-- taxiways and apron names
names-taken : all_taken (
    "TWY A B C D E F G H SNOWBANK." ∷ "TWY A12 POOR." ∷ "APRON 0123456789ABCDEF POOR." ∷ "APRON 1 POOR. APRON 01 POOR."
    ∷ "TWY TWY POOR." ∷ "TWY ALL POOR." ∷ "TWY A TWY B POOR." ∷ "APRON POOR POOR." ∷ "APRON ALL POOR." ∷ "TWY A SNOWBANK. TWY A POOR." ∷ []) ≡ true
unfolding read_awareness whole_awareness awareness_pieces in_order may_follow may_repeat other_apron same_runway read_item read_body read_form read_runway_form
    read_taxi_form read_apron_form read_bare_form read_detail read_length read_bank read_neither read_taxiway read_taxiways read_apron valid_item numbers_fit runway_fits
    amount_fits edge_fits count_fits is_taxiway valid_slot is_new slots_fit taxiways_fit name_fits on_runway on_taxiways item_text item_pieces valid_runway read_digits
    digits read_name run past read_text skip spell ◌and◌ read_many slots flat
names-taken = refl

names-refused : none_taken (
    "TWY A B C D E F G H I SNOWBANK." ∷ "TWY A123 POOR." ∷ "TWY 1A POOR." ∷ "TWY A A POOR." ∷ "TWY A B A SNOWBANK." ∷ "APRON 0123456789ABCDEFG POOR."
    ∷ "APRON A-1 POOR."
    ∷ "TWY POOR." ∷ "APRON POOR." ∷ "ALL TWY SNOWBANK." ∷ "TWY SNOWBANK." ∷ []) ≡ true
unfolding read_awareness whole_awareness awareness_pieces in_order may_follow may_repeat other_apron same_runway read_item read_body read_form read_runway_form
    read_taxi_form read_apron_form read_bare_form read_detail read_length read_bank read_neither read_taxiway read_taxiways read_apron valid_item numbers_fit runway_fits
    amount_fits edge_fits count_fits is_taxiway valid_slot is_new slots_fit taxiways_fit name_fits on_runway on_taxiways item_text item_pieces valid_runway read_digits
    digits read_name run past read_text skip spell ◌and◌ read_many slots flat
names-refused = refl

-- what may repeat, and the order of the letters
together : all_taken (
    "RWY 07 REDUCED TO 900. RWY 25 REDUCED TO 900. RWY 07L REDUCED TO 900." ∷ "RWY 07 LOOSE SAND. RWY 07C LOOSE SAND." ∷ "APRON B POOR. APRON A POOR."
    ∷ []) ≡ true
unfolding read_awareness whole_awareness awareness_pieces in_order may_follow may_repeat other_apron same_runway read_item read_body read_form read_runway_form
    read_taxi_form read_apron_form read_bare_form read_detail read_length read_bank read_neither read_taxiway read_taxiways read_apron valid_item numbers_fit runway_fits
    amount_fits edge_fits count_fits is_taxiway valid_slot is_new slots_fit taxiways_fit name_fits on_runway on_taxiways item_text item_pieces valid_runway read_digits
    digits read_name run past read_text skip spell ◌and◌ read_many slots flat
together = refl

-- one item of each letter
of-each : is_got (whole_awareness (bytes "RWY 25 REDUCED TO 900.DRIFTING SNOW.   RWY 07 LOOSE SAND.RWY 07 CHEMICALLY TREATED."
    ++ bytes "RWY 07 SNOWBANK L09 FM CL.TWY A SNOWBANK.RWY 07 ADJ SNOWBANK.ALL TWY POOR.ALL APRON POOR.")) ≡ true
unfolding read_awareness whole_awareness awareness_pieces in_order may_follow may_repeat other_apron same_runway read_item read_body read_form read_runway_form
    read_taxi_form read_apron_form read_bare_form read_detail read_length read_bank read_neither read_taxiway read_taxiways read_apron valid_item numbers_fit runway_fits
    amount_fits edge_fits count_fits is_taxiway valid_slot is_new slots_fit taxiways_fit name_fits on_runway on_taxiways item_text item_pieces valid_runway read_digits
    digits read_name run past read_text skip spell ◌and◌ read_many slots flat
of-each = refl

apart : none_taken (
    "RWY 07 REDUCED TO 900. RWY 07 REDUCED TO 800." ∷ "DRIFTING SNOW. DRIFTING SNOW." ∷ "RWY 07 LOOSE SAND. RWY 07 LOOSE SAND."
    ∷ "RWY 07 CHEMICALLY TREATED. RWY 07 CHEMICALLY TREATED."
    ∷ "RWY 07 SNOWBANK L09 FM CL. RWY 07 SNOWBANK R09 FM CL." ∷ "TWY A SNOWBANK. TWY B SNOWBANK." ∷ "RWY 07 ADJ SNOWBANK. RWY 07 ADJ SNOWBANK."
    ∷ "TWY A POOR. TWY B POOR."
    ∷ "TWY A POOR. ALL TWY POOR." ∷ "APRON N POOR. APRON N POOR." ∷ "ALL APRON POOR. ALL APRON POOR." ∷ "ALL APRON POOR. APRON N POOR."
    ∷ "APRON N POOR. ALL APRON POOR." ∷ "APRON ALL POOR.ALL APRON POOR."
    ∷ "RWY 07 LOOSE SAND. DRIFTING SNOW." ∷ "ALL APRON POOR. ALL TWY POOR." ∷ "TWY A POOR. RWY 07 ADJ SNOWBANK." ∷ []) ≡ true
unfolding read_awareness whole_awareness awareness_pieces in_order may_follow may_repeat other_apron same_runway read_item read_body read_form read_runway_form
    read_taxi_form read_apron_form read_bare_form read_detail read_length read_bank read_neither read_taxiway read_taxiways read_apron valid_item numbers_fit runway_fits
    amount_fits edge_fits count_fits is_taxiway valid_slot is_new slots_fit taxiways_fit name_fits on_runway on_taxiways item_text item_pieces valid_runway read_digits
    digits read_name run past read_text skip spell ◌and◌ read_many slots flat
apart = refl

-- spaces and full stops; a line without items is empty
spacing : (all_taken ("" ∷ "DRIFTING  SNOW." ∷ "TWY  A   W SNOWBANK." ∷ "DRIFTING SNOW.TWY A POOR." ∷ "DRIFTING SNOW.    TWY A POOR." ∷ []) ≡ true)
    × (none_taken ("DRIFTING SNOW" ∷ "DRIFTING SNOW ." ∷ "DRIFTING SNOW. " ∷ " DRIFTING SNOW." ∷ "DRIFTING SNOW.." ∷ "." ∷ " " ∷ "DRIFTING\tSNOW."
    ∷ "drifting snow." ∷ []) ≡ true)
unfolding read_awareness whole_awareness awareness_pieces in_order may_follow may_repeat other_apron same_runway read_item read_body read_form read_runway_form
    read_taxi_form read_apron_form read_bare_form read_detail read_length read_bank read_neither read_taxiway read_taxiways read_apron valid_item numbers_fit runway_fits
    amount_fits edge_fits count_fits is_taxiway valid_slot is_new slots_fit taxiways_fit name_fits on_runway on_taxiways item_text item_pieces valid_runway read_digits
    digits read_name run past read_text skip spell ◌and◌ read_many slots flat
spacing = (refl, refl)

-- 32 items, and a 33rd
aprons : List ℕ → List ℕ
aprons [] = []
aprons (c ∷ cs) = bytes "APRON " ++ (c ∷ bytes " POOR.") ++ aprons cs

count_most : (is_got (whole_awareness (aprons (bytes "0123456789ABCDEFGHIJKLMNOPQRSTUV"))) ≡ true)
    × (is_got (whole_awareness (aprons (bytes "0123456789ABCDEFGHIJKLMNOPQRSTUVW"))) ≡ false)
unfolding read_awareness whole_awareness awareness_pieces in_order may_follow may_repeat other_apron same_runway read_item read_body read_form read_runway_form
    read_taxi_form read_apron_form read_bare_form read_detail read_length read_bank read_neither read_taxiway read_taxiways read_apron valid_item numbers_fit runway_fits
    amount_fits edge_fits count_fits is_taxiway valid_slot is_new slots_fit taxiways_fit name_fits on_runway on_taxiways item_text item_pieces valid_runway read_digits
    digits read_name run past read_text skip spell ◌and◌ read_many slots flat aprons
count_most = (refl, refl)

-- the same in a record's array: 32 that were read, and one more
read : Got (List Item) → List Item
read misfit = []
read (got is m) = is

array-most : (holds_items (record { count = 32; items = read (whole_awareness (aprons (bytes "0123456789ABCDEFGHIJKLMNOPQRSTUV"))) }) ≡ true)
    × (holds_items (record { count = 33; items = map (λ c. apron_item (c ∷ [])) (bytes "0123456789ABCDEFGHIJKLMNOPQRSTUVW") }) ≡ false)
unfolding read_awareness whole_awareness awareness_pieces in_order may_follow may_repeat other_apron same_runway read_item read_body read_form read_runway_form
    read_taxi_form read_apron_form read_bare_form read_detail read_length read_bank read_neither read_taxiway read_taxiways read_apron valid_item numbers_fit runway_fits
    amount_fits edge_fits count_fits is_taxiway valid_slot is_new slots_fit taxiways_fit name_fits on_runway on_taxiways item_text item_pieces valid_runway read_digits
    digits read_name run past read_text skip spell ◌and◌ read_many slots flat aprons read holds_items valid_items sound_items is_blank_item no_numbers is_blank
array-most = (refl, refl)

-- plain language: the bytes that may stand in it, and the edges of its rules
abbrev language : String → Bool
language s = valid_language (bytes s)

-- the numbers below n that pass a test
below : (ℕ → Bool) → ℕ → List ℕ
below p zero = []
below p (suc n) = below p n ++ cond (p n) (n ∷ []) []

plain-bytes : below is_plain_byte 256 ≡ bytes " +,-./0123456789:ABCDEFGHIJKLMNOPQRSTUVWXYZ"
unfolding below is_mark
plain-bytes = refl

plain-edges : (language ".." ≡ true) × (language "A." ≡ true) × (language "A ." ≡ true) × (language "A  B ." ≡ true)
    × (language "" ≡ false) × (language "." ≡ false) × (language " ." ≡ false) × (language "A" ≡ false) × (language "A. " ≡ false) × (language "A)." ≡ false)
unfolding is_mark valid_language last_is ◌and◌
plain-edges = (refl, refl, refl, refl, refl, refl, refl, refl, refl, refl)

last-bytes : map (last_is 46) ([] ∷ bytes "." ∷ bytes "A" ∷ bytes ".A" ∷ bytes "A." ∷ []) ≡ false ∷ true ∷ false ∷ false ∷ true ∷ []
unfolding last_is
last-bytes = refl

plain-lengths : (valid_language (replicate 399 65 ++ bytes ".") ≡ true) × (valid_language (replicate 400 65 ++ bytes ".") ≡ false)
unfolding is_mark valid_language last_is ◌and◌
plain-lengths = (refl, refl)

-- the same in a record's array: as long as it is, zeros behind
plain-held : (holds_language (record { length = 400; bytes = replicate 399 65 ++ bytes "." }) ≡ true)
    × (holds_language (record { length = 401; bytes = replicate 399 65 ++ bytes "." }) ≡ false)
    × (holds_language (record { length = 2; bytes = bytes "A." ++ replicate 398 0 }) ≡ true)
    × (holds_language (record { length = 2; bytes = bytes "A." ++ (replicate 397 0 ++ (1 ∷ [])) }) ≡ false)
unfolding is_mark valid_language holds_language none_or_language last_is ◌and◌
plain-held = (refl, refl, refl, refl)
