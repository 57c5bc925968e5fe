-- "tell for each third whether the change counts"
use Rattle.std.specs.Prelude.{ℕ, unwrap_or, cond, Bool, true, not, [], ◌∷◌, eqb, leb, ℤ, pos, nat_abs, ◌-ℤ◌}
use Rattle.std.specs.Option.{option_map}
use Rattle.text.specs.Choice.{first_failing, ◌else◌, ◌and◌}
use Rattle.surface.specs.declared.Third.{Third}
use Rattle.surface.specs.Descriptions.{not_reported, line_of, is_deep}

-- how far a depth went up, below zero where it went down
unfoldable pub rise : ℕ → ℕ → ℤ
rise old new = pos new -ℤ pos old

-- "the difference up or down": its size, whatever its sign
unfoldable pub size : ℤ → ℕ
size z = nat_abs z

-- the figure of Table 3, its last column
abbrev pub figure : ℕ → ℕ
figure description = unwrap_or (option_map (λ l. l.2) (line_of description)) 0

-- "counted when the difference .. reaches the figure"; a description that has no line has no figure to reach
unfoldable pub is_significant : ℕ → ℕ → Bool
is_significant description difference = is_deep description and leb (figure description) difference

-- under one description: "NR against a number" counts, NR against NR is no change, and two numbers count by their difference
unfoldable pub depth_counts : ℕ → ℕ → ℕ → Bool
depth_counts description old new =
    cond (eqb old not_reported) (not (eqb new not_reported))
    (cond (eqb new not_reported) true
    (is_significant description (size (rise old new))))

-- "A change of code, coverage, description .. always counts", and that of a depth where "the description is the same"
unfoldable pub third_counts : Third → Third → Bool
third_counts old new =
    first_failing (
    eqb old.code new.code else true
    ∷ eqb old.coverage new.coverage else true
    ∷ eqb old.description new.description else true
    ∷ []) (depth_counts new.description old.depth new.depth)
