-- What stands below the rows: one law for each case of the code.
use Prim.Native.Nat.{ℕ, ◌+◌, ◌<◌, ◌≤◌}
use mathlib.Core.Path.{◌≡◌, ◌∙◌}
use mathlib.Core.List.{List, [], ◌∷◌, ◌++◌, append-nil}
use mathlib.Core.Bool.{true, false}
use lib.Dec.{eqb}
use lib.ListN.{length, replicate}
use lib.Seq.{sets}
use Rattle.text.specs.Choice.{◌and◌, is_empty}
use Rattle.text.specs.Piece.{canonical, verbatim}
use Rattle.text.specs.Lines.{under}
use Rattle.text.specs.Put.{Put, told}
use Rattle.text.specs.Laws.Base.{true-false}
use Rattle.items.specs.declared.Item.{Item}
use Rattle.items.specs.Awareness.{awareness_pieces}
use Rattle.items.specs.declared.Items.{Items}
use Rattle.items.specs.declared.Language.{Language}
use Rattle.items.specs.Parts.{items_of, language_of, make_language}
use Rattle.remarks.specs.Remarks.{language_lines, remark_lines}
use Rattle.text.specs.Laws.Put.{over_zeros, nothing_put}
use Rattle.text.specs.Laws.Arrays.{none-taken}

-- plain language that was put over zeros
pub language-put-in : (l b : List ℕ) → length l ≤ 400 → b ≡ sets (replicate 400 0) 0 l → record { length = length l; bytes = b } ≡ make_language l
language-put-in l b h e = let q = e ∙ over_zeros 0 400 l h in λ j. record { length = length l; bytes = q j }

-- nothing stands below the rows exactly if both counts are 0
pub nothing_said : (i : Items) (l : Language) → 0 < length i.items → 0 < length l.bytes → (is_empty (items_of i) and is_empty (language_of l)) ≡ (eqb i.count 0 and eqb l.length 0)
nothing_said i l h k = rw (none-taken i.count i.items h, none-taken l.length l.bytes k)

-- what is put below the awareness line, and below the rows
module _ {at r : ℕ} {b : List ℕ} where
  pub no-language-put : (l : Language) → l.length ≡ 0 → r ≡ told b (at + 0) → Put at (under (language_lines (language_of l))) b b r
  unfolding under
  no-language-put l z e = rw z (nothing_put b e)

  pub language-put : {x : List ℕ} (t : List ℕ) → is_empty t ≡ false → Put at ((10 ∷ []) ++ canonical (verbatim t)) b x r → Put at (under (language_lines t)) b x r
  unfolding under
  language-put [] h p = true-false h
  language-put (c ∷ t) h p = rw append-nil p

  module _ (is : List Item) (t : List ℕ) where
    pub no-remarks-put : (is_empty is and is_empty t) ≡ true → r ≡ told b (at + 0) → Put at (under (remark_lines is t)) b b r
    unfolding under
    no-remarks-put h e = rw h (nothing_put b e)

    pub remarks-put : {x : List ℕ} → (is_empty is and is_empty t) ≡ false → Put at ((10 ∷ 10 ∷ []) ++ (canonical (awareness_pieces is) ++ under (language_lines t))) b x r → Put at (under (remark_lines is t)) b x r
    unfolding under
    remarks-put h p = rw h p
