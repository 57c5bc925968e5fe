-- Reading a runway row: the row, or the group at fault; document 02, request 2.
use Rattle.std.specs.Prelude.{ℕ, List, [], ◌∷◌, cond, Bool, true, false, eqb, leb}
use Rattle.text.specs.Choice.{◌and◌, all, is_empty}
use Rattle.text.specs.Code.Held.{is_got}
use Rattle.text.specs.Read.{Got, got, guard, and_then, skip, whole, read_seq, read_if, read_or, read_gap}
use Rattle.text.specs.Numbers.{read_digits}
use Rattle.text.specs.Out.{Out, refuse, taken, place, fit, demand}
use Rattle.text.specs.Refusals.{no_row, wrong_runway, wrong_codes, wrong_coverage_or_depth, wrong_descriptions, wrong_width}
use Rattle.runway.specs.Time.{real_time}
use Rattle.runway.specs.Runway.{valid_runway, read_runway}
use Rattle.surface.specs.Descriptions.{not_reported}
use Rattle.surface.specs.Third.{third, is_code, is_coverage, valid_coverage, valid_depth}
use Rattle.surface.specs.declared.Third.{Third}
use Rattle.thirds.specs.Groups.{Three, read_group}
use Rattle.thirds.specs.declared.Group.TheVariants.{Codes, Coverages, Depths, Descriptions}
use Rattle.row.specs.Row.{blank_row, highest_runway, is_short}
use Rattle.row.specs.declared.Row.{Row}
use Rattle.rowtext.specs.declared.RowRead.{RowRead}

-- coverages, depths and descriptions
abbrev pub Rest : Type 0
Rest = Three × (Three × Three)

-- the thirds of a row: the first number of each group makes the first third, and so on
abbrev pub make_thirds : Three → Rest → List Third
make_thirds code rest =
    let (coverage, (depth, description)) = rest in
    third code.0 coverage.0 depth.0 description.0
    ∷ third code.1 coverage.1 depth.1 description.1
    ∷ third code.2 coverage.2 depth.2 description.2
    ∷ []

-- coverages or depths that are left out
abbrev pub all_nr : Three
all_nr = (not_reported, not_reported, not_reported)

-- time, runway, codes, the rest of the thirds, width
abbrev pub Groups : Type 0
Groups = ℕ × ((ℕ × ℕ) × (Three × (Rest × ℕ)))

-- the row that they make
abbrev pub make_row : Groups → Row
make_row groups =
    let (time, ((number, side), (code, (rest, width)))) = groups in
    record { time = time; number = number; side = side; thirds = make_thirds code rest; width = width }

-- a space comes next, or the row's end
unfoldable pub parted : List ℕ → Bool
parted [] = true
parted (x ∷ m) = eqb x 32

-- what f reads, up to the next space or the row's end: what is glued to a group belongs to it
abbrev pub read_alone : {A : Type 0} → (List ℕ → Got A) → List ℕ → Got A
read_alone f m = and_then (f m) (λ a k. guard (parted k) (got a k))

-- a test of each third's number
abbrev pub each : (ℕ → Bool) → Three → Bool
each test t = test t.0 and test t.1 and test t.2

-- "01 to 18, then nothing, L, C or R"
abbrev pub is_runway : ℕ × ℕ → Bool
is_runway p = valid_runway highest_runway p.0 p.1

-- "NR, 25, 50, 75, 100"
unfoldable pub may_cover : ℕ → Bool
may_cover c = cond (eqb c not_reported) true (is_coverage c)

-- "NR or 03 to 999"
unfoldable pub may_lie : ℕ → Bool
may_lie d = cond (eqb d not_reported) true (leb 3 d)

-- "missing, or 01 to 99"
unfoldable pub read_width : List ℕ → Got ℕ
read_width = read_or (read_gap (read_if (λ w. leb 1 w) (read_digits 2))) (λ m. got 0 m)

-- each group by itself, with the space before it: the time, which has none
unfoldable pub time_group : List ℕ → Got ℕ
time_group = read_alone (read_if real_time (read_digits 8))

-- the runway
unfoldable pub runway_group : List ℕ → Got (ℕ × ℕ)
runway_group = read_alone (read_if is_runway (read_gap read_runway))

-- the codes
unfoldable pub code_group : List ℕ → Got Three
code_group = read_alone (read_if (each is_code) (read_group Codes))

-- the coverages
unfoldable pub coverage_group : List ℕ → Got Three
coverage_group = read_alone (read_if (each may_cover) (read_group Coverages))

-- the depths
unfoldable pub depth_group : List ℕ → Got Three
depth_group = read_alone (read_if (each may_lie) (read_group Depths))

-- "The longest description that stands there is taken, and what follows the third is 28"
unfoldable pub description_group : List ℕ → Got Three
description_group = read_group Descriptions

-- the width, 0 where none stands there
unfoldable pub width_group : List ℕ → Got ℕ
width_group = read_alone read_width

-- "A row is short when three descriptions follow the codes with nothing but a width after them."
unfoldable pub short : List ℕ → Bool
short m = is_got (whole (read_seq (read_group Descriptions) read_width m))

-- a group: n at "the first byte of the group at fault", "for a missing group its row's end"
abbrev pub group : {A B : Type 0} → ℕ → (List ℕ → Got A) → List ℕ → (A → List ℕ → Out B) → Out B
group n f m = fit n (skip m) (f m)

-- a group that a short row leaves out
abbrev pub unless : {B : Type 0} → Bool → ℕ → (List ℕ → Got Three) → List ℕ → (Three → List ℕ → Out B) → Out B
unless true n f m k = k all_nr m
unless false n f m k = group n f m k

-- behind the codes, in a row that is short or not: coverage, depth, descriptions, width
abbrev pub behind_codes : Bool → Three → (Rest → ℕ → Row) → List ℕ → Out Row
behind_codes is_brief code row m₃ =
    unless is_brief wrong_coverage_or_depth coverage_group m₃ (λ coverage m₄.
    unless is_brief wrong_coverage_or_depth depth_group m₄ (λ depth m₅.
    group wrong_descriptions description_group m₅ (λ description m₆.
    let rest : Rest = (coverage, (depth, description)) in
    -- "a short row not allowed, at its descriptions"
    demand (cond is_brief (is_short (make_thirds code rest)) true) wrong_coverage_or_depth (skip m₅) (
    -- "a number its description forbids is 26, judged once all three are read"
    demand (all valid_coverage (make_thirds code rest)) wrong_coverage_or_depth (skip m₃) (
    demand (all valid_depth (make_thirds code rest)) wrong_coverage_or_depth (skip m₄) (
    group wrong_width width_group m₆ (λ width m₇.
    -- "or what follows"
    demand (is_empty m₇) wrong_width (skip m₇) (taken (row rest width)))))))))

-- "5 keeps the row's time; 24 runway, 25 codes, 26 coverage or depth, including a short row not allowed, at its descriptions, 27 descriptions,
-- 28 width or what follows; leftmost first"
unfoldable pub find_row : List ℕ → Out Row
find_row line =
    fit no_row line (time_group line) (λ time m₁.
    group wrong_runway runway_group m₁ (λ runway m₂.
    group wrong_codes code_group m₂ (λ code m₃.
    behind_codes (short m₃) code (λ rest width. make_row (time, (runway, (code, (rest, width))))) m₃)))

-- the answer to a line: the row, or the refusal, its place and the blank row
abbrev pub row_answer : List ℕ → Out Row → RowRead
row_answer line (refuse n left) = record { refusal = n; place = place line left; row = blank_row }
row_answer line (taken r) = record { refusal = 0; place = 0; row = r }
