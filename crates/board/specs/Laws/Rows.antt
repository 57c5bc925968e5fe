-- One row: blank, or valid and then of a real time.
use Rattle.std.specs.Prelude.{◌≡◌, refl, Bool, true, false}
use Rattle.std.proofs.Common.{sym, ◌∙◌, ap}
use Rattle.text.specs.Choice.{◌and◌}
use Rattle.text.specs.Laws.Base.{and-1}
use Rattle.runway.specs.Time.{real_time, real_day}
use Rattle.surface.specs.Third.{is_blank_third}
use Rattle.row.specs.declared.Row.{Row}
use Rattle.row.specs.Row.{valid_row, blank_row, is_blank_row, three_that}
use Rattle.row.specs.Laws.Row.{blank-row}

-- a blank row is blank, and no valid row is
pub blank-blank : is_blank_row blank_row ≡ true
unfolding is_blank_row three_that is_blank_third ◌and◌
blank-blank = refl

pub blank-invalid : valid_row blank_row ≡ false
unfolding valid_row real_time real_day ◌and◌
blank-invalid = refl

pub valid-not-blank : (r : Row) → valid_row r ≡ true → is_blank_row r ≡ false
valid-not-blank r v = go (is_blank_row r) refl
  where
    go : (t : Bool) → is_blank_row r ≡ t → t ≡ false
    go false e = refl
    go true e = sym v ∙ (ap valid_row (blank-row r e) ∙ blank-invalid)

pub row-real : (r : Row) → valid_row r ≡ true → real_time r.time ≡ true
unfolding valid_row
row-real r h = and-1 _ _ h
