-- The groups of thirds of a row's text: codes, coverages, depths, descriptions, "joined by `/`".
use Rattle.std.specs.Prelude.{ℕ, List, [], ◌∷◌, eqb, leb, cond}
use Rattle.text.specs.Piece.{Piece, bytes, spell, words, verbatim, ◌then◌, space}
use Rattle.text.specs.Read.{Got, read_seq, read_as, read_if, read_or, read_after, read_gap, read_word}
use Rattle.text.specs.Names.{read_name}
use Rattle.text.specs.Numbers.{digits, read_digits, number, read_number}
use Rattle.surface.specs.Descriptions.{not_reported, compacted_snow, dry_snow, dry_snow_on_compacted_snow, dry_snow_on_ice, frost, ice, slush, standing_water}
use Rattle.surface.specs.Descriptions.{water_on_compacted_snow, wet, wet_ice, wet_snow, wet_snow_on_compacted_snow, wet_snow_on_ice, dry, description_name}
use Rattle.thirds.specs.declared.Group.{Group}
use Rattle.thirds.specs.declared.Group.TheVariants.{Codes, Coverages, Depths, Descriptions}

-- "NR", or a number in "two digits below 100, three from there"
unfoldable pub measure_pieces : ℕ → List Piece
measure_pieces x = cond (eqb x not_reported) (words "NR") (number 2 x)

-- the same read
unfoldable pub read_measure : List ℕ → Got ℕ
read_measure = read_or (read_word (bytes "NR") not_reported) (read_if (λ x. leb 1 x) (read_number 2))

-- a coverage is a percentage; which of them stand is a rule of a valid third
unfoldable pub read_coverage : List ℕ → Got ℕ
read_coverage = read_if (λ x. leb x 100) read_measure

-- "NR or one of fifteen, which are fixed byte strings"
abbrev pub description_pieces : ℕ → List Piece
description_pieces d = spell (description_name d)

-- a longer description is tried before each that it begins with
abbrev pub description_order : List ℕ
description_order =
    not_reported ∷ compacted_snow
    ∷ dry_snow_on_compacted_snow ∷ dry_snow_on_ice ∷ dry_snow ∷ dry
    ∷ frost ∷ ice ∷ slush ∷ standing_water ∷ water_on_compacted_snow
    ∷ wet_snow_on_compacted_snow ∷ wet_snow_on_ice ∷ wet_snow ∷ wet_ice ∷ wet
    ∷ []

-- the first of them that stands here
unfoldable pub read_description : List ℕ → Got ℕ
read_description = read_name description_name description_order

-- the text of one third in each of the groups; "Code: one digit"
unfoldable pub third_pieces : Group → ℕ → List Piece
third_pieces Codes = digits 1
third_pieces Coverages = measure_pieces
third_pieces Depths = measure_pieces
third_pieces Descriptions = description_pieces

-- the same read
unfoldable pub read_third : Group → List ℕ → Got ℕ
read_third Codes = read_digits 1
read_third Coverages = read_coverage
read_third Depths = read_measure
read_third Descriptions = read_description

-- the highest number that a third of a group can show
unfoldable pub highest : Group → ℕ
highest Codes = 9
highest Coverages = 100
highest Depths = 999
highest Descriptions = dry

-- a number for each third
abbrev pub Three : Type 0
Three = ℕ × ℕ × ℕ

-- "joined by `/`"
abbrev pub slash : List Piece
slash = verbatim (bytes "/")

-- the texts of three thirds
abbrev pub joined : (ℕ → List Piece) → Three → List Piece
joined f t = f t.0 then slash then f t.1 then slash then f t.2

-- the same read
abbrev pub read_three : (List ℕ → Got ℕ) → List ℕ → Got Three
read_three f = read_as (λ p. (p.0, p.1.0, p.1.1)) (read_seq f (read_seq (read_after (bytes "/") f) (read_after (bytes "/") f)))

-- a group of thirds, parted by one space from what stands before it
abbrev pub group_pieces : Group → Three → List Piece
group_pieces g t = space then joined (third_pieces g) t

-- the same read
unfoldable pub read_group : Group → List ℕ → Got Three
read_group g = read_gap (read_three (read_third g))
