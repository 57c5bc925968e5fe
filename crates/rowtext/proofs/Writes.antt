-- The texts of a row's groups, put one behind the other.
use Prim.Native.Nat.{ℕ}
use mathlib.Core.Path.{◌≡◌, ◌∙◌, ap}
use mathlib.Core.List.{List, [], ◌∷◌, ◌++◌}
use mathlib.Core.Bool.{true, false}
use lib.Dec.{leb}
use lib.ListN.{length}
use native.Mathlib.Omega.{arith}
use borrow.Author.Tests.{le-leb, leb-true}
use Rattle.text.specs.Piece.{Piece, gap, canonical, bytes}
use Rattle.text.specs.Numbers.{digits}
use Rattle.text.specs.Put.{Put}
use Rattle.text.specs.Laws.Put.{canonical-append, whole-put}
use Rattle.runway.specs.Runway.{runway_pieces}
use Rattle.thirds.specs.declared.Group.TheVariants.{Codes, Descriptions}
use Rattle.rowtext.specs.Text.{group_of, middle_pieces, width_pieces, row_pieces}
use Rattle.rowtext.specs.Writing.{WroteRow}
use Rattle.row.specs.declared.Row.{Row}

row-joined : (t u c m d w : List Piece) → canonical (t ++ (gap ∷ (u ++ (c ++ (m ++ (d ++ w))))))
    ≡ canonical t ++ (bytes " " ++ (canonical u ++ (canonical c ++ (canonical m ++ (canonical d ++ canonical w)))))
row-joined t u c m d w =
    canonical-append t (gap ∷ (u ++ (c ++ (m ++ (d ++ w)))))
    ∙ ap (λ (q : List ℕ). canonical t ++ (32 ∷ q))
    (rw (canonical-append u (c ++ (m ++ (d ++ w))), canonical-append c (m ++ (d ++ w)), canonical-append m (d ++ w), canonical-append d w))

pub row-bytes : (r : Row) → canonical (row_pieces r)
    ≡ canonical (digits 8 r.time)
    ++ (bytes " "
    ++ (canonical (runway_pieces r.number r.side)
    ++ (canonical (group_of Codes r) ++ (canonical (middle_pieces r) ++ (canonical (group_of Descriptions r) ++ canonical (width_pieces r.width))))))
unfolding row_pieces
row-bytes r = row-joined (digits 8 r.time) (runway_pieces r.number r.side) (group_of Codes r) (middle_pieces r) (group_of Descriptions r) (width_pieces r.width)

-- a text that fits is put whole, and one that does not is not put
module _ {t b : List ℕ} where
  pub wrote_on : {x : List ℕ} {r : ℕ} → leb (length t) (length b) ≡ true → Put 0 t b x r → WroteRow t b x r
  wrote_on e p = let w = whole-put p (leb-true (length t) (length b) e) in record { filled = rw e w.0; holds = rw e w.1 }

  pub wrote-off : leb (length t) (length b) ≡ false → WroteRow t b b 0
  wrote-off e = record { filled = rw e; holds = rw e }

-- where there is no text, none is put
pub wrote_none : (b : List ℕ) → WroteRow [] b b 0
wrote_none b = let e = le-leb 0 (length b) (omega arith) in record { filled = rw e; holds = rw e }
