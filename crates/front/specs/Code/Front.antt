-- Lines 1 to 5: filled in line by line, as the code reads them, and one under the other, as it puts them; what the code's answers say.
use Rattle.std.specs.Prelude.{ℕ, zero, suc, ◌≤◌, ◌≡◌, List, [], ◌∷◌, ◌++◌, eqb, ltb, length, drop, cond, Result, MatchResult}
use Rattle.text.specs.Piece.{canonical}
use Rattle.text.specs.Lines.{Cut, cut, text, onward, cuts, lines_size}
use Rattle.text.specs.Read.{Got, read_as, whole}
use Rattle.frontlines.specs.declared.Addresses.{Addresses}
use Rattle.frontlines.specs.declared.Filing.{Filing}
use Rattle.frontlines.specs.declared.Title.{Title}
use Rattle.frontlines.specs.Addresses.{read_addresses, addresses_pieces}
use Rattle.frontlines.specs.Filing.{read_filing, filing_pieces}
use Rattle.frontlines.specs.declared.Heading.{Heading}
use Rattle.frontlines.specs.Heading.{aerodrome_size, read_heading, read_serial_line, read_aerodrome, heading_pieces, serial_pieces, aerodrome_pieces}
use Rattle.frontlines.specs.Code.Answers.{zeros, blank_addresses, blank_filing, blank_title}
use Rattle.text.specs.Out.{Out, refuse, taken, next, fit}
use Rattle.front.specs.declared.Front.{Front}
use Rattle.front.specs.declared.FrontFound.{FrontFound}
use Rattle.front.specs.declared.Line.{Line}
use Rattle.front.specs.declared.Line.TheVariants.{First, Second, Third, Fourth, Fifth}
use Rattle.text.specs.Refusals.{number, line_one_or_two, line_three, outline}
use Rattle.text.specs.declared.refusal.Fault.{Fault}

-- nothing is read yet
abbrev pub blank_front : Front
blank_front = record { addresses = blank_addresses; filing = blank_filing; title = blank_title; time = 0; serial = 0; aerodrome = zeros aerodrome_size }

-- the front with one line more: line 1
abbrev pub with_addresses : Front → Addresses → Front
with_addresses f a = record { addresses = a; filing = f.filing; title = f.title; time = f.time; serial = f.serial; aerodrome = f.aerodrome }

-- line 2
abbrev pub with_filing : Front → Filing → Front
with_filing f x = record { addresses = f.addresses; filing = x; title = f.title; time = f.time; serial = f.serial; aerodrome = f.aerodrome }

-- line 3
abbrev pub with_heading : Front → Heading → Front
with_heading f h = record { addresses = f.addresses; filing = f.filing; title = h.title; time = h.time; serial = f.serial; aerodrome = f.aerodrome }

-- line 4
abbrev pub with_serial : Front → ℕ → Front
with_serial f n = record { addresses = f.addresses; filing = f.filing; title = f.title; time = f.time; serial = n; aerodrome = f.aerodrome }

-- line 5
abbrev pub with_aerodrome : Front → List ℕ → Front
with_aerodrome f a = record { addresses = f.addresses; filing = f.filing; title = f.title; time = f.time; serial = f.serial; aerodrome = a }

-- what line 3 said
abbrev pub heading_of : Front → Heading
heading_of f = record { title = f.title; time = f.time }

-- how many lines there are
abbrev pub front_count : ℕ
front_count = 5

-- the place of each line, counted from 0
abbrev pub number_of : Line → ℕ
number_of First = 0
number_of Second = 1
number_of Third = 2
number_of Fourth = 3
number_of Fifth = 4

-- a line by its place, read whole into the front
unfoldable pub fill_line : ℕ → Front → List ℕ → Got Front
fill_line k f l =
    cond (eqb k 0) (read_as (with_addresses f) (λ m. whole (read_addresses m)) l)
    (cond (eqb k 1) (read_as (with_filing f) (λ m. whole (read_filing m)) l)
    (cond (eqb k 2) (read_as (with_heading f) (λ m. whole (read_heading m)) l)
    (cond (eqb k 3) (read_as (with_serial f) (λ m. whole (read_serial_line m)) l)
    (read_as (with_aerodrome f) (λ m. whole (read_aerodrome m)) l))))

-- its refusal, also where it is missing
unfoldable pub line_refusal : ℕ → ℕ
line_refusal k = cond (ltb k 2) line_one_or_two (cond (eqb k 2) line_three outline)

-- what lines 1 to 5 say so far, and lines 3, 4 and 5 themselves, where a disagreement is told
pub record Opening : Type 0 where
  pub front : Front
  pub third : Cut
  pub fourth : Cut
  pub fifth : Cut

-- nothing is read yet
abbrev pub unopened : Opening
unopened = record { front = blank_front; third = cut [] []; fourth = cut [] []; fifth = cut [] [] }

-- the line k, counted from 0, kept beside what is said with it
abbrev pub kept : ℕ → Cut → Opening → Front → Opening
kept k c o f = record { front = f; third = cond (eqb k 2) c o.third; fourth = cond (eqb k 3) c o.fourth; fifth = cond (eqb k 4) c o.fifth }

-- one line more, and the lines behind it
unfoldable pub next_line : ℕ → Opening → List Cut → Out (Opening × List Cut)
next_line k o [] = refuse (line_refusal k) []
next_line k o (c ∷ cs) = fit (line_refusal k) (onward c) (fill_line k o.front (text c)) (λ f _. taken (kept k c o f, cs))

-- n lines from the line k on
unfoldable pub fill_lines : ℕ → ℕ → Opening → List Cut → Out (Opening × List Cut)
fill_lines zero k o cs = taken (o, cs)
fill_lines (suc n) k o cs = next (next_line k o cs) (λ p. fill_lines n (suc k) p.0 p.1)

-- lines 1 to 5 of m are read; what is below them starts behind five lines
pub record FrontTaken (m : List ℕ) (f : FrontFound) : Type 0 where
  pub within : f.next ≤ length m
  pub opening : Opening
  pub fronts : opening.front ≡ f.front
  pub says : fill_lines front_count 0 unopened (cuts m) ≡ taken (opening, cuts (drop f.next m))
  pub behind : f.next ≡ lines_size front_count m

-- or the first that is missing or does not fit refuses it
pub record FrontRefused (m : List ℕ) (f : Fault) : Type 0 where
  pub within : f.place ≤ length m
  pub says : fill_lines front_count 0 unopened (cuts m) ≡ refuse (number f.refusal) (drop f.place m)

-- the answer r is the reading of the front of m
abbrev pub FrontHeld : List ℕ → Result FrontFound Fault → Type 0
FrontHeld m r = MatchResult r (FrontTaken m) (FrontRefused m)

-- lines 1 to 5, one under the other
abbrev pub front_text : Addresses → Filing → Title → ℕ → List ℕ
front_text addresses filing title time =
    canonical (addresses_pieces addresses)
    ++ ((10 ∷ canonical (filing_pieces filing))
    ++ ((10 ∷ canonical (heading_pieces (record { title = title; time = time })))
    ++ ((10 ∷ canonical (serial_pieces title.serial))
    ++ (10 ∷ canonical (aerodrome_pieces title.aerodrome)))))
