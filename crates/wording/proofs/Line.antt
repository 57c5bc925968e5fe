-- The text of the awareness line, one item more at a time.
use Prim.Native.Nat.{ℕ, ◌+◌, ◌<◌}
use mathlib.Core.Path.{◌≡◌, refl, sym, ◌∙◌, ap}
use mathlib.Core.List.{List, [], ◌∷◌, ◌++◌, append_assoc, append-nil}
use native.Mathlib.Numerals.{add-one}
use native.Mathlib.Omega.{arith}
use lib.ListN.{length, take, get_or}
use lib.Seq.{take-suc}
use Rattle.text.specs.Piece.{Piece, loose, canonical, lay_all, bytes}
use Rattle.text.specs.Laws.Put.{canonical-append}
use Rattle.items.specs.declared.Item.{Item}
use Rattle.items.specs.ItemText.{item_pieces}
use Rattle.items.specs.Awareness.{awareness_pieces}

abbrev pub awareness_text : List Item → List ℕ
awareness_text is = canonical (awareness_pieces is)

-- another item, and the space before it
abbrev spaced : Item → List Piece
spaced i = loose ∷ item_pieces i

lay-more : (is : List Item) (i : Item) → lay_all spaced (is ++ (i ∷ [])) ≡ lay_all spaced is ++ spaced i
lay-more [] i = append-nil (spaced i)
lay-more (j ∷ is) i = ap (λ (p : List Piece). spaced j ++ p) (lay-more is i) ∙ sym (append_assoc (spaced j) (lay_all spaced is) (spaced i))

line-more : (j : Item) (is : List Item) (i : Item) → awareness_text (j ∷ (is ++ (i ∷ []))) ≡ awareness_text (j ∷ is) ++ (bytes " " ++ canonical (item_pieces i))
unfolding awareness_pieces
line-more j is i =
    ap (λ (p : List Piece). canonical (item_pieces j ++ p)) (lay-more is i)
    ∙ ap canonical (sym (append_assoc (item_pieces j) (lay_all spaced is) (spaced i)))
    ∙ canonical-append (item_pieces j ++ lay_all spaced is) (spaced i)

-- none, and the first one
pub no-line : (is : List Item) → length is ≡ 0 → awareness_text is ≡ []
unfolding awareness_pieces
no-line [] h = refl
no-line (i ∷ is) h = absurd (omega arith)

pub line-first : (j : Item) (others : List Item) → awareness_text (take 1 (j ∷ others)) ≡ canonical (item_pieces j)
unfolding awareness_pieces
line-first j others = ap canonical (append-nil (item_pieces j))

-- what stands past the items of a slice
abbrev outside : Item
outside = record { letter = 0; number = 0; side = 0; amount = 0; edge = 0; count = 0; taxiways = []; name = [] }

-- the item behind the first and k others
pub line-next : (j : Item) (others : List Item) (k : ℕ) → k < length others
    → awareness_text (take (k + 1 + 1) (j ∷ others)) ≡ awareness_text (take (k + 1) (j ∷ others)) ++ (bytes " " ++ canonical (item_pieces (get_or others k outside)))
line-next j others k h = rw (add-one, add-one, take-suc others k outside h) (line-more j (take k others) (get_or others k outside))
