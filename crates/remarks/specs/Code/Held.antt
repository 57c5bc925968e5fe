-- What the code's answers say of reading below the rows.
use Rattle.std.specs.Prelude.{ℕ, ◌≡◌, List, [], cond, Bool, eqb, length, take, drop, Option, None, Some, Result, Ok, Err, MatchResult}
use Rattle.text.specs.Choice.{is_empty}
use Rattle.text.specs.Lines.{line_size, line_step, closed, line_text}
use Rattle.text.specs.Read.{Got, misfit, got}
use Rattle.text.specs.Out.{Out, refuse, taken}
use Rattle.text.specs.Refusals.{outline, wrong_items, wrong_language}
use Rattle.text.specs.declared.refusal.Fault.{Fault}
use Rattle.text.specs.Code.Faults.{Refused}
use Rattle.items.specs.declared.Item.{Item}
use Rattle.items.specs.Awareness.{whole_awareness}
use Rattle.items.specs.Language.{valid_language}
use Rattle.items.specs.Parts.{make_items, make_language}
use Rattle.remarks.specs.Remarks.{Remarks, remarks}
use Rattle.remarks.specs.declared.Remarks as Code

-- items and plain language in their arrays, zeros behind them
abbrev pub kept : Remarks → Code.Remarks
kept x = record { items = make_items x.items; language = make_language x.language }

-- they are what is read
pub record RemarksTaken (o : Out Remarks) (r : Code.Remarks) : Type 0 where
  pub said : Remarks
  pub says : o ≡ taken said
  pub keeps : r ≡ kept said

-- the answer r is the reading o of what stands at the end of m
abbrev pub RemarksHeld : List ℕ → Out Remarks → Result Code.Remarks Fault → Type 0
RemarksHeld m o r = MatchResult r (RemarksTaken o) (Refused m o)

-- what an answer says of the struct that it was lent: what it holds, or the fault
abbrev pub answered : {T : Type 0} → T → Result (Unit {0}) Fault → Result T Fault
answered x (Ok u) = Ok x
answered x (Err f) = Err f

-- the reading o of what stands at the end of m is in the structs x, and the answer r tells whether it fits; nothing is there where it does not
abbrev pub RemarksLeft : List ℕ → Out Remarks → Code.Remarks → Result (Unit {0}) Fault → Type 0
RemarksLeft m o x r = RemarksHeld m o (answered x r) × MatchResult r (λ _. Unit {0}) (λ _. x ≡ kept (remarks [] []))

-- behind the line that `)` closes: "bytes after the end"
unfoldable pub ending : List ℕ → Remarks → Out Remarks
ending rest x = cond (eqb (length rest) 0) (taken x) (refuse outline rest)

-- the line of plain language at the front of what is left, below these items: 4 where it is missing, and "at once" where it lacks `)`; 9 where it
-- does not fit
unfoldable pub language_step : List Item → List ℕ → Out Remarks
language_step is left =
    let l = take (line_size left) left in
    cond (closed l) (cond (valid_language (line_text l)) (ending (drop (line_step left) left) (remarks is (line_text l))) (refuse wrong_language left))
    (refuse outline [])

-- behind an awareness line at the front of what is left, that `)` closes or not: 8 where the line does not fit, or is "empty before `)`"
unfoldable pub behind_items : List ℕ → Got (List Item) → Bool → List ℕ → Out Remarks
behind_items left misfit c rest = refuse wrong_items left
behind_items left (got is j) c rest = cond c (cond (is_empty is) (refuse wrong_items left) (ending rest (remarks is []))) (language_step is rest)

-- the awareness line at the front of what is left
unfoldable pub items_step : List ℕ → Out Remarks
items_step left =
    let l = take (line_size left) left in behind_items left (whole_awareness (line_text l)) (closed l) (drop (line_step left) left)

-- the line that comes next: the awareness line, or the plain language below its items
unfoldable pub next_step : Option (List Item) → List ℕ → Out Remarks
next_step None = items_step
next_step (Some is) = language_step is
