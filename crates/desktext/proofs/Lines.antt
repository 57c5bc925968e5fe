-- What the proofs of the desk's lines need.
use Rattle.std.specs.Prelude.{ℕ, zero, suc, ◌<◌, ◌≤◌, ◌≡◌, refl, List, [], ◌∷◌, ◌++◌, Bool, true, false, Option, None, Some, length, take, drop}
use Rattle.std.specs.Option.{is_some}
use Rattle.std.proofs.Common.{sym, ◌∙◌, ap, take_all, ne_eqb, le-leb, arith}
use Rattle.text.specs.Choice.{◌and◌}
use Rattle.text.specs.Piece.{canonical, end}
use Rattle.text.specs.Read.{Got, misfit, got, guard, and_then, whole}
use Rattle.text.specs.Names.{is_letter, read_count}
use Rattle.text.specs.Out.{refuse, taken}
use Rattle.text.specs.Laws.Base.{true-false}
use Rattle.text.specs.Laws.Put.{canonical-append}
use Rattle.row.specs.declared.Row.{Row}
use Rattle.row.specs.Row.{valid_row}
use Rattle.rowtext.specs.Text.{row_pieces}
use Rattle.rowtext.specs.Reading.{find_row}
use Rattle.text.specs.Refusals.{no_row}
use Rattle.frontlines.specs.Letters.{is_letters}
use Rattle.frontlines.specs.Heading.{aerodrome_size, read_aerodrome}
use Rattle.frontlines.specs.Code.Answers.{found}
use Rattle.text.specs.Lines.{longest}
use Rattle.board.specs.declared.Runway.{Runway}
use Rattle.board.specs.declared.Board.{Board}
use Rattle.board.specs.declared.Answer.{Answer}
use Rattle.desktext.specs.declared.RunwayList.{RunwayList}
use Rattle.board.specs.Board.{is_aerodrome, answer, refused_opening}
use Rattle.board.specs.Report.{report}
use Rattle.desktext.specs.Line.{read_runways, read_opening, list_found, opening_with, opening_read, opening_line, read_sender, report_line, shown_text}
use Rattle.board.specs.Laws.Aerodrome.{aerodrome-fits}

-- the first n bytes of a class, read as a part of their own
count-split : (p : ℕ → Bool) (n : ℕ) (m : List ℕ) → read_count p n m ≡ and_then (whole (read_count p n (take n m))) (λ a _. got a (drop n m))
unfolding read_count
count-split p zero m = refl
count-split p (suc n) [] = refl
count-split p (suc n) (x ∷ m) = go (p x) (read_count p n (take n m)) refl (count-split p n m)
  where
    go : (t : Bool) (g : Got (List ℕ)) → read_count p n (take n m) ≡ g → read_count p n m ≡ and_then (whole (read_count p n (take n m))) (λ a _. got a (drop n m))
        → and_then {A = ℕ × List ℕ} (and_then (guard t (got x m)) (λ a k. and_then (read_count p n k) (λ b r. got (a, b) r))) (λ q r. got (q.0 ∷ q.1) r)
        ≡ and_then (whole (and_then {A = ℕ × List ℕ} (and_then (guard t (got x (take n m))) (λ a k. and_then (read_count p n k) (λ b r. got (a, b) r))) (λ q r. got (q.0 ∷ q.1) r))) (λ a _. got a (drop n m))
    go false g q e = refl
    go true misfit q e = rw (e, q)
    go true (got a []) q e = rw (e, q)
    go true (got a (y ∷ k)) q e = rw (e, q)

-- what opening answers to an aerodrome and runways, each of which may be missing
abbrev pub opened_by : Option (List ℕ) → Option RunwayList → Answer
opened_by None l = refused_opening
opened_by (Some a) None = refused_opening
opened_by (Some a) (Some l) = opening_with a l

-- a line: its first four bytes, and the rest
module _ (line : List ℕ) where
  abbrev front : Got (List ℕ)
  front = whole (read_aerodrome (take aerodrome_size line))

  abbrev rest : List ℕ
  rest = drop aerodrome_size line

  split : opening_line line ≡ opening_read (whole (and_then (and_then front (λ a _. got a rest)) (λ a k. and_then (read_runways k) (λ ws r. got (a, ws) r))))
  unfolding opening_line read_opening read_aerodrome
  split = rw (count-split is_letter aerodrome_size line)

  pub line-opened : {a : Option (List ℕ)} {l : Option RunwayList} → a ≡ found front → l ≡ list_found (whole (read_runways rest)) → opened_by a l ≡ opening_line line
  line-opened e q = rw (e, q) (sym (split ∙ go front))
    where
      on : (a : List ℕ) (h : Got (List (Runway × ℕ))) → opening_read (whole (and_then h (λ ws r. got (a, ws) r))) ≡ opened_by (Some a) (list_found (whole h))
      on a misfit = refl
      on a (got ws []) = refl
      on a (got ws (x ∷ k)) = refl

      go : (g : Got (List ℕ)) → opening_read (whole (and_then (and_then g (λ a _. got a rest)) (λ a k. and_then (read_runways k) (λ ws r. got (a, ws) r))))
          ≡ opened_by (found g) (list_found (whole (read_runways rest)))
      go misfit = refl
      go (got a r) = on a (read_runways rest)

  pub too_short : length line < aerodrome_size → refused_opening ≡ opening_line line
  unfolding is_aerodrome is_letters ◌and◌
  too_short h = line-opened {l = list_found (whole (read_runways rest))} (sym (none (found front) missing)) refl
    where
      missing : is_some (found front) ≡ false
      missing = aerodrome-fits (take aerodrome_size line) ∙ (ap is_aerodrome (take_all aerodrome_size line (omega arith)) ∙ rw (ne_eqb (length line) aerodrome_size (omega arith)))

      none : (o : Option (List ℕ)) → is_some o ≡ false → o ≡ None
      none None e = refl
      none (Some a) e = true-false e

-- a line of a report: its start, and the row behind it
module _ (line : List ℕ) (h : length line ≤ longest) where
  pub line-unstarted : read_sender line ≡ misfit → (b : Board) → report_line b line ≡ answer no_row b
  unfolding report_line
  line-unstarted e b = rw (le-leb (length line) longest h, e)

  module _ (desk : ℕ) (rest : List ℕ) (e : read_sender line ≡ got desk rest) where
    pub line-refused : {n : ℕ} {left : List ℕ} → find_row rest ≡ refuse n left → (b : Board) → report_line b line ≡ answer n b
    unfolding report_line
    line-refused q b = rw (le-leb (length line) longest h, e, q)

    pub line-reported : {r : Row} → find_row rest ≡ taken r → (b : Board) → report_line b line ≡ report b desk r
    unfolding report_line
    line-reported q b = rw (le-leb (length line) longest h, e, q)

-- the line of a row shown
pub shown_line : (r : Row) → valid_row r ≡ true → shown_text r ≡ canonical (row_pieces r) ++ (10 ∷ [])
unfolding shown_text
shown_line r v = rw v (canonical-append (row_pieces r) (end ∷ []))

pub no_line : (r : Row) → valid_row r ≡ false → shown_text r ≡ []
unfolding shown_text
no_line r v = rw v
