-- Request 5, sentence by sentence.
use Rattle.std.specs.Prelude.{ℕ, ◌<◌, ◌≡◌, true, false, ◌↔◌, get_or}
use Rattle.std.proofs.Common.{sym, ◌∙◌, ap}
use Rattle.text.specs.Laws.Base.{true-false}
use Rattle.surface.specs.declared.Third.{Third}
use Rattle.surface.specs.Descriptions.{not_reported, is_deep}
use Rattle.surface.specs.Third.{valid_third}
use Rattle.row.specs.declared.Row.{Row}
use Rattle.row.specs.Row.{third_of}
use Rattle.due.specs.declared.Change.{Change}
use Rattle.due.specs.Third.{figure, third_counts}
use Rattle.due.specs.Change.{change}
use Rattle.due.specs.Counts.{Figure, Counts, Comparable, Due}
use Rattle.due.proofs.Laws.Figure.{figure-is, deep-figure}
use Rattle.due.proofs.Laws.Third.{has-figure, each_counts, reason}
use Rattle.due.specs.Laws.Change.{comparable, Case, case-invalid, case-apart, case-compared, case-of}
use Rattle.due.specs.Laws.Change.{none-at, counts-at}
use Rattle.due.proofs.Laws.Change.{due-by, due-why}

-- ---- Table 3

-- the table's figures are those of the request; every deep kind has one, and so has every depth of a valid third
pub the-figure : {d f : ℕ} → Figure d f → figure d ≡ f
the-figure = figure-is

pub every-figure : (d : ℕ) → is_deep d ≡ true → Figure d (figure d)
every-figure = deep-figure

pub depth-figure : (t : Third) → valid_third t ≡ true → (t.depth ≡ not_reported → ⊥) → Figure t.description (figure t.description)
depth-figure = has-figure

-- ---- a third

-- a third counts for the reasons that the request gives, and for no other
pub exactly : (old new : Third) → (third_counts old new ≡ true) ↔ Counts old new
exactly old new = (reason old new, each_counts old new)

-- ---- a row

-- "tell for each third whether the change counts"
pub third-exactly : (old new : Row) (i : ℕ) → i < 3 → (get_or (change old new).counts i false ≡ true) ↔ (Comparable old new × Counts (third_of old i) (third_of new i))
third-exactly old new i h = (λ e. go (change old new) (case-of old new) e, λ k. stands k.0 k.1)
  where
    go : (c : Change) → Case old new c → get_or c.counts i false ≡ true → Comparable old new × Counts (third_of old i) (third_of new i)
    go c (case-invalid e) k = true-false (sym k ∙ none-at i)
    go c (case-apart v w e) k = true-false (sym k ∙ none-at i)
    go c (case-compared e) k = (e, reason (third_of old i) (third_of new i) (sym (counts-at old new i h) ∙ k))

    stands : Comparable old new → Counts (third_of old i) (third_of new i) → get_or (change old new).counts i false ≡ true
    stands c k = ap (λ (x : Change). get_or x.counts i false) (comparable c) ∙ (counts-at old new i h ∙ each_counts (third_of old i) (third_of new i) k)

-- "A new notice is due when a third counts or the width differs"
pub due-exactly : (old new : Row) → ((change old new).due ≡ true) ↔ (Comparable old new × Due old new)
due-exactly old new = (λ e. go (change old new) (case-of old new) e, λ k. ap (λ (x : Change). x.due) (comparable k.0) ∙ due-by old new k.1)
  where
    go : (c : Change) → Case old new c → c.due ≡ true → Comparable old new × Due old new
    go c (case-invalid e) k = true-false (sym k)
    go c (case-apart v w e) k = true-false (sym k)
    go c (case-compared e) k = (e, due-why old new k)
