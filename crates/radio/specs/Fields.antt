-- The numbers of a row, in document 02's order, each with what it may be and where it goes.
use Rattle.std.specs.Prelude.{ℕ, ◌+◌, ◌*◌, ◌/◌, ◌%◌, List, [], ◌∷◌, map, Bool, ◌||◌, eqb, leb, ltb, set}
use Rattle.text.specs.Choice.{◌and◌}
use Rattle.text.specs.Refusals.{radio_value}
use Rattle.radio.specs.Outcome.{Outcome, taken, next, need}
use Rattle.surface.specs.declared.Third.{Third}
use Rattle.surface.specs.Third.{is_code, greatest_depth}
use Rattle.surface.specs.Descriptions.{is_description}
use Rattle.row.specs.declared.Row.{Row}
use Rattle.row.specs.Row.{third_of, greatest_width, highest_runway}
use Rattle.radio.specs.declared.Field.{Field}
use Rattle.radio.specs.declared.Field.TheVariants.{Minutes, Runway, Code, Coverage, Depth, Description, Width}
use Rattle.radio.specs.Number.{Part, part, read_number}
use Rattle.radio.specs.Minutes.{minutes_of, time_of, year_minutes}

-- "minutes .., runway ..; three codes; three coverages ..; three depths ..; three descriptions ..; width": the one order of the numbers
abbrev pub order : List Field
order =
    Minutes
    ∷ Runway
    ∷ Code 0 ∷ Code 1 ∷ Code 2
    ∷ Coverage 0 ∷ Coverage 1 ∷ Coverage 2
    ∷ Depth 0 ∷ Depth 1 ∷ Depth 2
    ∷ Description 0 ∷ Description 1 ∷ Description 2
    ∷ Width
    ∷ []

-- the number that stands for it
abbrev pub number_of : Row → Field → ℕ
-- "minutes since 1 January 00:00 of a leap year"
number_of r Minutes = minutes_of r.time
-- "runway number times four plus 0 to 3 for none, L, C, R"
number_of r Runway = r.number * 4 + r.side
number_of r (Code i) = (third_of r i).code
-- "coverages 0 to 4 with 0 for NR"
number_of r (Coverage i) = (third_of r i).coverage / 25
-- "depths with 0 for NR"
number_of r (Depth i) = (third_of r i).depth
-- "descriptions 0 to 15, NR first, then in 01's order"
number_of r (Description i) = (third_of r i).description
-- "width with 0 for missing"
number_of r Width = r.width

-- what the number alone may be
abbrev pub may_be : Field → ℕ → Bool
may_be Minutes x = ltb x year_minutes
may_be Runway x = leb 4 x and leb x (highest_runway * 4 + 3)
may_be (Code i) x = is_code x
may_be (Coverage i) x = leb x 4
may_be (Depth i) x = eqb x 0 || (leb 3 x and leb x greatest_depth)
may_be (Description i) x = is_description x
may_be Width x = leb x greatest_width

-- a third of the row put in place
abbrev pub with_third : Row → ℕ → Third → Row
with_third r i t = record { time = r.time; number = r.number; side = r.side; thirds = set r.thirds i t; width = r.width }

-- the row with the number in it
abbrev pub fill : Row → Field → ℕ → Row
fill r Minutes x = record { time = time_of x; number = r.number; side = r.side; thirds = r.thirds; width = r.width }
fill r Runway x = record { time = r.time; number = x / 4; side = x % 4; thirds = r.thirds; width = r.width }
fill r (Code i) x = let t = third_of r i in with_third r i (record { code = x; coverage = t.coverage; depth = t.depth; description = t.description })
fill r (Coverage i) x = let t = third_of r i in with_third r i (record { code = t.code; coverage = x * 25; depth = t.depth; description = t.description })
fill r (Depth i) x = let t = third_of r i in with_third r i (record { code = t.code; coverage = t.coverage; depth = x; description = t.description })
fill r (Description i) x = let t = third_of r i in with_third r i (record { code = t.code; coverage = t.coverage; depth = t.depth; description = x })
fill r Width x = record { time = r.time; number = r.number; side = r.side; thirds = r.thirds; width = x }

-- the numbers of a row
abbrev pub row_numbers : Row → List ℕ
row_numbers r = map (number_of r) order

-- numbers read one after the other into a row, each judged when it is complete
unfoldable pub read_fields : List Field → Row → List ℕ → Outcome (Part Row)
read_fields [] r m = taken (part r m)
read_fields (f ∷ fs) r m = next (read_number m) (λ p. need radio_value (may_be f p.value) (read_fields fs (fill r f p.value) p.rest))
