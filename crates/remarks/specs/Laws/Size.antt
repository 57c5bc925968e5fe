-- How long what stands below the rows is.
use Rattle.std.specs.Prelude.{ℕ, suc, ◌≤◌, ◌≡◌, List, [], ◌∷◌, cond, Bool, true, false, length}
use Rattle.std.proofs.Common.{lit≤, leb-true, arith}
use Rattle.text.specs.Choice.{◌and◌, is_empty}
use Rattle.text.specs.Laws.Base.{and-1, and-2}
use Rattle.text.specs.Laws.Sizes.{no_size, verbatim-size, total}
use Rattle.items.specs.declared.Item.{Item}
use Rattle.items.specs.Awareness.{valid_items, awareness_pieces}
use Rattle.items.specs.Language.{valid_language}
use Rattle.items.specs.Laws.Size.{awareness-size}
use Rattle.items.specs.Parts.{none_or_language}
use Rattle.remarks.specs.Remarks.{language_lines, remark_lines}

language-size : (p : List ℕ) → none_or_language p ≡ true → total (language_lines p) ≤ 401
unfolding total valid_language none_or_language
language-size [] v = lit≤ tt
language-size (c ∷ p) v = let h = leb-true (suc (length p)) 400 (and-1 _ _ (and-2 _ _ v)) in rw verbatim-size (omega arith)

pub remarks-size : (is : List Item) (p : List ℕ) → valid_items is ≡ true → none_or_language p ≡ true → total (remark_lines is p) ≤ 1906
unfolding total
remarks-size is p v w = go (is_empty is and is_empty p)
  where
    go : (b : Bool) → total (cond b [] ([] ∷ awareness_pieces is ∷ language_lines p)) ≤ 1906
    go true = lit≤ tt
    go false = let a = awareness-size is v in let c = language-size p w in rw no_size (omega arith)
