-- What counts and what is due, as the sentences of document 02 say it.
use Rattle.std.specs.Prelude.{ℕ, ◌+◌, ◌≤◌, ◌<◌, ◌≡◌, true}
use Rattle.surface.specs.declared.Third.{Third}
use Rattle.surface.specs.Descriptions.{not_reported, dry_snow, slush, standing_water, wet_snow}
use Rattle.row.specs.declared.Row.{Row}
use Rattle.row.specs.Row.{valid_row, third_of}

-- "standing water 3 mm, slush 3, wet snow 5, dry snow 20"
pub data Figure : ℕ → ℕ → Type 0 where
  for-standing-water : Figure standing_water 3
  for-slush : Figure slush 3
  for-wet-snow : Figure wet_snow 5
  for-dry-snow : Figure dry_snow 20

-- "the difference up or down reaches the figure"
pub data Moved (figure old new : ℕ) : Type 0 where
  up : old + figure ≤ new → Moved figure old new
  down : new + figure ≤ old → Moved figure old new

-- why the change of a third counts
pub data Counts (old new : Third) : Type 0 where
  -- "A change of code, coverage, description .. always counts"
  by_code : (old.code ≡ new.code → ⊥) → Counts old new
  by-coverage : (old.coverage ≡ new.coverage → ⊥) → Counts old new
  by-description : (old.description ≡ new.description → ⊥) → Counts old new
  -- "and so does NR against a number in depth"
  by_number : old.depth ≡ not_reported → (new.depth ≡ not_reported → ⊥) → Counts old new
  by-nr : (old.depth ≡ not_reported → ⊥) → new.depth ≡ not_reported → Counts old new
  -- "counted when the difference up or down reaches the figure and the description is the same"
  by-depth : {figure : ℕ} → old.description ≡ new.description → Figure new.description figure
      → (old.depth ≡ not_reported → ⊥) → (new.depth ≡ not_reported → ⊥) → Moved figure old.depth new.depth → Counts old new

-- what is not refused: two valid rows of one runway
pub record Comparable (old new : Row) : Type 0 where
  pub old-valid : valid_row old ≡ true
  pub new-valid : valid_row new ≡ true
  pub number : old.number ≡ new.number
  pub side : old.side ≡ new.side

-- why a new notice is due: "when a third counts or the width differs"
pub data Due (old new : Row) : Type 0 where
  by-third : (i : ℕ) → i < 3 → Counts (third_of old i) (third_of new i) → Due old new
  by_width : (old.width ≡ new.width → ⊥) → Due old new
