-- The text of a row: document 01, "A runway row".
use Rattle.std.specs.Prelude.{ℕ, List, [], ◌∷◌, eqb, cond}
use Rattle.text.specs.Piece.{Piece, nr_groups, ◌then◌, space}
use Rattle.text.specs.Numbers.{digits}
use Rattle.runway.specs.Runway.{runway_pieces}
use Rattle.surface.specs.declared.Third.{Third}
use Rattle.thirds.specs.Groups.{Three, group_pieces}
use Rattle.thirds.specs.declared.Group.{Group}
use Rattle.thirds.specs.declared.Group.TheVariants.{Codes, Coverages, Depths, Descriptions}
use Rattle.row.specs.declared.Row.{Row}
use Rattle.row.specs.Row.{third_of, is_short}

-- what a third holds for each of the groups
abbrev pub field : Group → Third → ℕ
field Codes t = t.code
field Coverages t = t.coverage
field Depths t = t.depth
field Descriptions t = t.description

-- the numbers of a group, third by third
abbrev pub numbers_of : Group → Row → Three
numbers_of g r = (field g (third_of r 0), field g (third_of r 1), field g (third_of r 2))

-- a group of the row's thirds, parted by one space from what stands before it
abbrev pub group_of : Group → Row → List Piece
group_of g r = group_pieces g (numbers_of g r)

-- coverages and depths: of a short row "the writer leaves both groups out", "otherwise both stand"
unfoldable pub middle_pieces : Row → List Piece
middle_pieces r = cond (is_short r.thirds) (nr_groups ∷ []) (group_of Coverages r then group_of Depths r)

-- "missing, or 01 to 99"
unfoldable pub width_pieces : ℕ → List Piece
width_pieces w = cond (eqb w 0) [] (space then digits 2 w)

-- "Time, runway, codes, coverage, depth, descriptions, width", parted by one space
unfoldable pub row_pieces : Row → List Piece
row_pieces r =
    digits 8 r.time
    then space then runway_pieces r.number r.side
    then group_of Codes r
    then middle_pieces r
    then group_of Descriptions r
    then width_pieces r.width
