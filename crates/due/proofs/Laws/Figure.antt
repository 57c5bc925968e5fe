-- The figures of Table 3 as document 02 gives them.
use Rattle.std.specs.Prelude.{ℕ, ◌≡◌, refl, true, leb}
use Rattle.std.proofs.Common.{sym, ◌∙◌}
use Rattle.text.specs.Choice.{◌and◌}
use Rattle.text.specs.Laws.Base.{true-false}
use Rattle.surface.specs.Descriptions.{is_deep}
use Rattle.surface.specs.Laws.Table3.{by-line}
use Rattle.due.specs.Counts.{Figure, for-standing-water, for-slush, for-wet-snow, for-dry-snow}
use Rattle.due.specs.Third.{figure, is_significant}
use Rattle.due.specs.Laws.Figure.{figure-deep}

-- the table gives them
pub figure-is : {d f : ℕ} → Figure d f → figure d ≡ f
figure-is for-standing-water = refl
figure-is for-slush = refl
figure-is for-wet-snow = refl
figure-is for-dry-snow = refl

-- and every deep kind has one
pub deep-figure : (d : ℕ) → is_deep d ≡ true → Figure d (figure d)
unfolding is_deep
deep-figure =
    by-line (λ d. is_deep d ≡ true → Figure d (figure d)) (λ h. for-standing-water) (λ h. for-slush) (λ h. for-wet-snow) (λ h. for-dry-snow)
    (λ d o h. true-false (sym h ∙ rw (o.no-water, o.no-slush, o.no-wet, o.no-dry)))

-- with its figure at hand a difference reaches it by its size alone
pub figure-reached : {d f : ℕ} → Figure d f → (n : ℕ) → is_significant d n ≡ leb f n
unfolding ◌and◌ is_significant
figure-reached g n = rw (figure-deep g, figure-is g)
