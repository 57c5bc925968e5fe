-- A row's text has at most 147 bytes.
use Rattle.std.specs.Prelude.{ℕ, ◌≤◌, [], ◌∷◌, ◌++◌, cond, Bool, true, false, eqb, length}
use Rattle.std.proofs.Common.{lit≤, arith}
use Rattle.text.specs.Piece.{gap, nr_groups, canonical}
use Rattle.text.specs.Numbers.{digits}
use Rattle.text.specs.Laws.Sizes.{size, cons-size, no_size, append-size, digits-size, cond-size}
use Rattle.runway.specs.Runway.{runway_pieces}
use Rattle.runway.specs.Laws.Runway.{runway-size}
use Rattle.thirds.specs.Laws.Sizes.{codes-size, coverages-size, depths-size, descriptions-size}
use Rattle.thirds.specs.declared.Group.TheVariants.{Codes, Coverages, Depths, Descriptions}
use Rattle.row.specs.Row.{is_short, valid_row}
use Rattle.rowtext.specs.Text.{numbers_of, group_of, middle_pieces, width_pieces, row_pieces}
use Rattle.rowtext.specs.Writing.{row_text}
use Rattle.row.specs.declared.Row.{Row}

width-size : (w : ℕ) → size (width_pieces w) ≤ 3
unfolding width_pieces
width-size w = cond-size 3 (eqb w 0) [] (gap ∷ digits 2 w) (rw no_size (lit≤ tt)) (rw (cons-size, digits-size) (lit≤ tt))

middle-size : (r : Row) → size (middle_pieces r) ≤ 24
unfolding middle_pieces
middle-size r =
    let a = coverages-size (numbers_of Coverages r) in
    let b = depths-size (numbers_of Depths r) in
    cond-size 24 (is_short r.thirds) (nr_groups ∷ []) (group_of Coverages r ++ group_of Depths r)
    (rw (cons-size, no_size) (lit≤ tt)) (rw (append-size (group_of Coverages r) (group_of Depths r)) (omega arith))

pub row-size : (r : Row) → size (row_pieces r) ≤ 147
unfolding row_pieces
row-size r =
    let a = runway-size r.number r.side in
    let b = codes-size (numbers_of Codes r) in
    let c = middle-size r in
    let d = descriptions-size (numbers_of Descriptions r) in
    let e = width-size r.width in
    rw (
      append-size (digits 8 r.time) _,
      digits-size,
      cons-size,
      append-size (runway_pieces r.number r.side) _,
      append-size (group_of Codes r) _,
      append-size (middle_pieces r) _,
      append-size (group_of Descriptions r) _,
    ) (omega arith)

pub text-size : (r : Row) → length (row_text r) ≤ 147
unfolding row_text size
text-size r = go (valid_row r)
  where
    go : (b : Bool) → length (cond b (canonical (row_pieces r)) []) ≤ 147
    go true = row-size r
    go false = lit≤ tt
