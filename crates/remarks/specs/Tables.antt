-- The answers below the rows, evaluated: what is read, and each refusal with what is left where it arises.
use Rattle.std.specs.Prelude.{◌≡◌, refl, List, [], ◌∷◌, ◌++◌, map, true, false, None, Some, Err, replicate, ℕ}
use Rattle.std.proofs.Common.{lit≤}
use Rattle.text.specs.declared.refusal.Refusal.TheVariants.{WrongLanguage}
use Rattle.text.specs.Choice.{◌and◌}
use Rattle.text.specs.Piece.{bytes}
use Rattle.text.specs.Names.{is_mark}
use Rattle.text.specs.Lines.{end_size, line_size, line_step, closed, all_but_last}
use Rattle.text.specs.Out.{Out, more, refuse, taken}
use Rattle.text.specs.Read.{misfit, got}
use Rattle.items.specs.declared.Item.{Item}
use Rattle.items.specs.Item.{letter_j}
use Rattle.items.specs.ReadItem.{bare_item}
use Rattle.items.specs.Awareness.{read_awareness, whole_awareness}
use Rattle.items.specs.Language.{last_is, valid_language}
use Rattle.remarks.specs.Remarks.{Remarks, read_language_line, read_remarks, remarks}
use Rattle.remarks.specs.Code.Held.{kept, RemarksHeld, RemarksLeft, ending, language_step, behind_items, items_step, next_step}

-- one item
abbrev drifting : List Item
drifting = bare_item letter_j ∷ []

-- plain language below it
abbrev said : List ℕ → Out Remarks
said l = taken (remarks drifting l)

pub record Answers : Type 0 where
  -- zeros behind what is said
  none : kept (remarks [] []) ≡ record {
    items = record { count = 0; items = replicate 32 (bare_item 0) };
    language =
        record { length = 0; bytes = replicate 400 0 };
  }
  read : kept (remarks drifting (bytes "A.")) ≡ record {
    items = record { count = 1; items = bare_item letter_j ∷ replicate 31 (bare_item 0) };
    language =
        record { length = 2; bytes = bytes "A." ++ replicate 398 0 };
  }
  -- 4 where the awareness line, or that of plain language, is missing
  no_items : read_remarks (more []) ≡ refuse 4 []
  no-language : read_language_line [] [] ≡ refuse 4 []
  -- "bytes after the end": 4 at the first of them
  ends : map (λ rest. ending rest (remarks [] [])) ([] ∷ bytes "C" ∷ bytes "BC" ∷ []) ≡ taken (remarks [] []) ∷ refuse 4 (bytes "C") ∷ refuse 4 (bytes "BC") ∷ []
  -- 4 at the end where the line is missing or lacks `)`, 9 at its first byte where it does not fit
  languages : map (λ s. language_step drifting (bytes s)) ("" ∷ ")" ∷ "A.)" ∷ "A." ∷ "a.)" ∷ [])
      ≡ refuse 4 [] ∷ refuse 9 (bytes ")") ∷ said (bytes "A.") ∷ refuse 4 [] ∷ refuse 9 (bytes "a.)") ∷ []
  after : map (λ s. language_step drifting (bytes s)) ("A.)\n" ∷ "A.)\nA" ∷ []) ≡ said (bytes "A.") ∷ refuse 4 (bytes "A") ∷ []
  -- 8 where the items do not fit, whatever follows, and where the awareness line is "empty before `)`"
  open-line : map (λ g. behind_items (bytes "DRIFT\nA.)") g false (bytes "A.)")) (got drifting [] ∷ misfit ∷ [])
      ≡ said (bytes "A.") ∷ refuse 8 (bytes "DRIFT\nA.)") ∷ []
  closed-line : map (λ s. behind_items (bytes "DRIFT)\n" ++ s) (got drifting []) true s) ([] ∷ bytes "A" ∷ []) ≡ said [] ∷ refuse 4 (bytes "A") ∷ []
  empty : behind_items (bytes ")") (got [] []) true [] ≡ refuse 8 (bytes ")")
  -- the awareness line: missing, empty before `)`, and empty above plain language
  first : map (λ s. items_step (bytes s)) ("" ∷ ")" ∷ "\nA.)" ∷ []) ≡ refuse 4 [] ∷ refuse 8 (bytes ")") ∷ taken (remarks [] (bytes "A.")) ∷ []
  -- and then the plain language
  steps : map (λ above. next_step above (bytes "A.)")) (Some drifting ∷ None ∷ []) ≡ said (bytes "A.") ∷ items_step (bytes "A.)") ∷ []
  -- a refusal at its place
  held : RemarksHeld (bytes "ABC") (refuse 9 (bytes "C")) (Err (record { refusal = WrongLanguage; place = 2 }))
  left : RemarksLeft (bytes "ABC") (refuse 9 (bytes "C")) (kept (remarks [] [])) (Err (record { refusal = WrongLanguage; place = 2 }))

pub answers : Answers
unfolding ◌and◌ is_mark end_size line_size line_step closed all_but_last last_is valid_language whole_awareness read_awareness ending
    language_step behind_items items_step next_step
answers = record {
  none = refl;
  read = refl;
  no_items = refl;
  no-language = refl;
  ends = refl;
  languages = refl;
  after = refl;
  open-line = refl;
  closed-line = refl;
  empty = refl;
  first = refl;
  steps = refl;
  held = record { within = lit≤ tt; says = refl };
  left = (record { within = lit≤ tt; says = refl }, refl);
}
