-- The figures of Table 3 as document 02 gives them.
use Rattle.std.specs.Prelude.{ℕ, ◌≡◌, refl, true, false}
use Rattle.text.specs.Choice.{◌and◌}
use Rattle.surface.specs.Descriptions.{is_deep}
use Rattle.surface.specs.Laws.Table3.{by-line}
use Rattle.due.specs.Counts.{Figure, for-standing-water, for-slush, for-wet-snow, for-dry-snow}
use Rattle.due.specs.Third.{is_significant}

pub figure-deep : {d f : ℕ} → Figure d f → is_deep d ≡ true
unfolding is_deep
figure-deep for-standing-water = refl
figure-deep for-slush = refl
figure-deep for-wet-snow = refl
figure-deep for-dry-snow = refl

-- no figure is 0: what stays as it is reaches none
pub none-reached : (d : ℕ) → is_significant d 0 ≡ false
unfolding ◌and◌ is_deep is_significant
none-reached = by-line (λ d. is_significant d 0 ≡ false) refl refl refl refl (λ d o. rw (o.no-water, o.no-slush, o.no-wet, o.no-dry))
