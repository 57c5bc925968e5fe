-- Below the rows: an empty line, the awareness line and the plain language, if there is any of them.
use Rattle.std.specs.Prelude.{ℕ, List, [], ◌∷◌, ◌++◌, cond}
use Rattle.text.specs.Choice.{◌and◌, is_empty}
use Rattle.text.specs.Piece.{Piece, verbatim}
use Rattle.text.specs.Lines.{Cut, cut, closed, line_text}
use Rattle.items.specs.declared.Item.{Item}
use Rattle.items.specs.Awareness.{awareness_pieces, whole_awareness}
use Rattle.items.specs.Language.{whole_language}
use Rattle.text.specs.Out.{Out, refuse, taken, fit, at_end, After, finished, more}
use Rattle.text.specs.Refusals.{outline, wrong_items, wrong_language}

-- "if there is plain language, its line"
abbrev pub language_lines : List ℕ → List (List Piece)
language_lines [] = []
language_lines (c ∷ l) = verbatim (c ∷ l) ∷ []

-- "Then, if there are items or plain language: an empty line, the awareness line, and, if there is plain language, its line."
-- "With plain language and no items the awareness line is empty."
abbrev pub remark_lines : List Item → List ℕ → List (List Piece)
remark_lines is l = cond (is_empty is and is_empty l) [] ([] ∷ awareness_pieces is ∷ language_lines l)

-- what stands below the rows
pub record Remarks : Type 0 where
  pub items : List Item
  pub language : List ℕ

-- the two put together
abbrev pub remarks : List Item → List ℕ → Remarks
remarks is l = record { items = is; language = l }

-- "plain language lacking `)` gives 4 at once", "for a missing line or `)` the message's length"; 9 where it does not fit, at "the line's first byte"
abbrev pub read_language_line : List Item → List Cut → Out Remarks
read_language_line is [] = refuse outline []
read_language_line is (cut l behind ∷ cs) =
    cond (closed l) (fit wrong_language (l ++ behind) (whole_language (line_text l)) (λ p _. at_end cs (remarks is p))) (refuse outline [])

-- the awareness line: 8 at its first byte, also where it is "empty before `)`"; a missing line is 4
abbrev pub read_remarks : After → Out Remarks
read_remarks finished = taken (remarks [] [])
read_remarks (more []) = refuse outline []
read_remarks (more (cut l behind ∷ cs)) = fit wrong_items (l ++ behind) (whole_awareness (line_text l)) (λ is _.
    cond (closed l) (cond (is_empty is) (refuse wrong_items (l ++ behind)) (at_end cs (remarks is []))) (read_language_line is cs))
