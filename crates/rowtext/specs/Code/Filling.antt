-- A row that is filled group by group, as the code reads it.
use Rattle.std.specs.Prelude.{ℕ, ◌<◌, ◌≤◌, ◌≡◌, List, [], ◌∷◌, cond, Bool, true, Result, MatchResult, length, drop}
use Rattle.text.specs.Choice.{all, is_empty}
use Rattle.text.specs.Read.{Got, got, skip, read_seq, read_if}
use Rattle.text.specs.Out.{Out, taken, next, fit, demand}
use Rattle.text.specs.declared.Found.{Found}
use Rattle.text.specs.Code.Held.{Reached}
use Rattle.text.specs.declared.refusal.Refusal.{Refusal}
use Rattle.text.specs.declared.refusal.Fault.{Fault}
use Rattle.text.specs.Code.Faults.{Refused}
use Rattle.text.specs.Refusals.{no_row, wrong_runway, wrong_codes, wrong_coverage_or_depth, wrong_descriptions, wrong_width}
use Rattle.surface.specs.Third.{is_code, valid_coverage, valid_depth}
use Rattle.surface.specs.declared.Third.{Third}
use Rattle.thirds.specs.Groups.{Three, read_group}
use Rattle.thirds.specs.declared.Group.{Group}
use Rattle.thirds.specs.declared.Group.TheVariants.{Codes, Coverages, Depths, Descriptions}
use Rattle.row.specs.Row.{third_of, is_short}
use Rattle.row.specs.declared.Row.{Row}
use Rattle.rowtext.specs.Text.{numbers_of}
use Rattle.rowtext.specs.Reading.{Rest, all_nr, make_thirds, read_alone, each, may_cover, may_lie, read_width, short, group, find_row}
use Rattle.rowtext.specs.Reading.{time_group, runway_group, code_group, coverage_group, depth_group, description_group, width_group}
use Rattle.rowtext.specs.declared.Part.{Part}

-- the row with one group more: its time
abbrev pub with_time : Row → ℕ → Row
with_time r t = record r { time = t }

-- its runway
abbrev pub with_runway : Row → ℕ × ℕ → Row
with_runway r p = record r { number = p.0; side = p.1 }

-- a third with another number for one of its groups
abbrev pub with_number : Group → Third → ℕ → Third
with_number Codes t x = record t { code = x }
with_number Coverages t x = record t { coverage = x }
with_number Depths t x = record t { depth = x }
with_number Descriptions t x = record t { description = x }

-- a row with its numbers of a group
abbrev pub with_group : Group → Row → Three → Row
with_group g r n =
    record r { thirds = with_number g (third_of r 0) n.0 ∷ with_number g (third_of r 1) n.1 ∷ with_number g (third_of r 2) n.2 ∷ [] }

-- with coverages, depths and descriptions beside its codes
abbrev pub with_rest : Row → Rest → Row
with_rest r rest = record r { thirds = make_thirds (numbers_of Codes r) rest }

-- with its width
abbrev pub with_width : Row → ℕ → Row
with_width r w = record r { width = w }

-- the test of a number of each group by itself; a description has none
unfoldable pub may_stand : Group → ℕ → Bool
may_stand Codes x = is_code x
may_stand Coverages x = may_cover x
may_stand Depths x = may_lie x
may_stand Descriptions x = true

-- a group of thirds by itself
unfoldable pub alone_group : Group → List ℕ → Got Three
alone_group g = read_alone (read_if (each (may_stand g)) (read_group g))

-- thirds whose numbers their descriptions allow; else 26 at the coverages, whose group starts at m₃, or at the depths, at m₄
abbrev pub judged : {A : Type 0} → List Third → List ℕ → List ℕ → Out A → Out A
judged ts m₃ m₄ o =
    demand (all valid_coverage ts) wrong_coverage_or_depth (skip m₃) (
    demand (all valid_depth ts) wrong_coverage_or_depth (skip m₄) o)

-- coverages, depths and descriptions
unfoldable pub full_rest : Row → List ℕ → Out (Row × List ℕ)
full_rest r m₃ =
    group wrong_coverage_or_depth coverage_group m₃ (λ coverage m₄.
    group wrong_coverage_or_depth depth_group m₄ (λ depth m₅.
    group wrong_descriptions description_group m₅ (λ description m₆.
    let filled : Row = with_rest r (coverage, (depth, description)) in
    judged filled.thirds m₃ m₄ (taken (filled, m₆)))))

-- all that is left of a short row: descriptions and width
unfoldable pub short_rest : Row → List ℕ → Out (Row × List ℕ)
short_rest r m =
    group wrong_descriptions (read_seq description_group read_width) m (λ p k.
    let filled : Row = with_rest r (all_nr, (all_nr, p.0)) in
    demand (is_short filled.thirds) wrong_coverage_or_depth (skip m) (taken (with_width filled p.1, k)))

-- the parts of a row in their order: coverages, depths and descriptions are one, since a short row has the last alone
abbrev pub parts : List Part
parts = Part.Time ∷ Part.Runway ∷ Part.Codes ∷ Part.Rest ∷ Part.Width ∷ []

-- a part read into the row
unfoldable pub fill_group : Part → Row → List ℕ → Out (Row × List ℕ)
fill_group Part.Time r m = fit no_row m (time_group m) (λ time k. taken (with_time r time, k))
fill_group Part.Runway r m = group wrong_runway runway_group m (λ runway k. taken (with_runway r runway, k))
fill_group Part.Codes r m = group wrong_codes code_group m (λ code k. taken (with_group Codes r code, k))
fill_group Part.Rest r m = cond (short m) (short_rest r m) (full_rest r m)
-- nothing is left where there is no width, or where a short row has it already
fill_group Part.Width r m =
    cond (is_empty m) (taken (r, m))
    (group wrong_width width_group m (λ width k. demand (is_empty k) wrong_width (skip k) (taken (with_width r width, k))))

-- several parts, one behind the other
unfoldable pub fill_from : List Part → Row → List ℕ → Out (Row × List ℕ)
fill_from [] r m = taken (r, m)
fill_from (g ∷ gs) r m = next (fill_group g r m) (λ p. fill_from gs p.0 p.1)

-- the answer a to what `fill` reads of m into a row, which it leaves as r: up to a place, or not at all where it is refused
abbrev pub Filled : (fill : Row → List ℕ → Out (Row × List ℕ)) (m : List ℕ) (was r : Row) → Result ℕ Fault → Type 0
Filled fill m was r a = MatchResult a (λ next. (next ≤ length m) × (fill was m ≡ taken (r, drop next m))) (λ f. Refused m (fill was m) f × (r ≡ was))

-- the answer a to the judgement of thirds whose coverages start at m, and whose depths start at m₄
abbrev pub Judged : (ts : List Third) (m m₄ : List ℕ) → Result (Unit {0}) Fault → Type 0
Judged ts m m₄ a = let o : Out (Unit {0}) = judged ts m m₄ (taken tt) in MatchResult a (λ _. o ≡ taken tt) (Refused m o)

-- the answer r to the reading of a whole line
abbrev pub RowFound : List ℕ → Result Row Fault → Type 0
RowFound line r = MatchResult r (λ row. find_row line ≡ taken row) (Refused line (find_row line))

-- the fault f of the part that k should be, an end of m: at its first byte
pub record FaultAt (m k : List ℕ) (refusal : Refusal) (f : Fault) : Type 0 where
  pub refused : f.refusal ≡ refusal
  pub place : Reached m (skip k) f.place

-- a width is always found: none is one
pub record HeldWidth (m k : List ℕ) (r : Found) : Type 0 where
  pub within : r.next ≤ length m
  pub says : read_width k ≡ got r.value (drop r.next m)
  pub low : r.value < 100
