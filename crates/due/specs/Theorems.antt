-- Request 5, sentence by sentence.
use Rattle.std.specs.Prelude.{ℕ, ◌≡◌, refl, true, false, ◌↔◌}
use Rattle.std.proofs.Common.{◌∙◌, ap, arith}
use Rattle.runway.specs.Time.{real_time}
use Rattle.surface.specs.declared.Third.{Third}
use Rattle.surface.specs.Descriptions.{not_reported}
use Rattle.row.specs.declared.Row.{Row}
use Rattle.row.specs.Row.{valid_row}
use Rattle.due.specs.declared.Change.{Change}
use Rattle.due.specs.Third.{third_counts}
use Rattle.due.specs.Change.{compared, no_thirds, change}
use Rattle.due.specs.Counts.{Comparable}
use Rattle.due.specs.Laws.Third.{Alike, alike-counts, nothing-counts}
use Rattle.due.specs.Laws.Change.{at_time, comparable, Case, case-invalid, case-apart, case-compared, case-of, change-swap, change-self}
use Rattle.due.specs.Laws.Change.{change-at}

-- ---- a third

-- NR against NR is no change
pub both-nr : (old new : Third) → Alike old new → old.depth ≡ not_reported → new.depth ≡ not_reported → third_counts old new ≡ false
both-nr old new s p q = alike-counts old new s ∙ nothing-counts new.description old.depth new.depth p q

-- ---- a row

-- 19, 29 or an answer: which, and what it then is
pub answers : (old new : Row) → Case old new (change old new)
answers = case-of

-- nothing is refused but an invalid row and different runways
pub taken-exactly : (old new : Row) → ((change old new).refusal ≡ 0) ↔ Comparable old new
taken-exactly old new = (λ h. go (change old new) (case-of old new) h, λ c. ap (λ (x : Change). x.refusal) (comparable c))
  where
    go : (c : Change) → Case old new c → c.refusal ≡ 0 → Comparable old new
    go c (case-invalid e) k = absurd (omega arith)
    go c (case-apart v w e) k = absurd (omega arith)
    go c (case-compared e) k = e

-- "both give no thirds", and nothing is due
pub refused-nothing : (old new : Row) → ((change old new).refusal ≡ 0 → ⊥) → ((change old new).counts ≡ no_thirds) × ((change old new).due ≡ false)
refused-nothing old new h = go (change old new) (case-of old new) h
  where
    go : (c : Change) → Case old new c → (c.refusal ≡ 0 → ⊥) → (c.counts ≡ no_thirds) × (c.due ≡ false)
    go c (case-invalid e) k = (refl, refl)
    go c (case-apart v w e) k = (refl, refl)
    go c (case-compared e) k = absurd (k refl)

-- "The answer for a row is the same with old and new exchanged", refusals too
pub exchanged : (old new : Row) → change old new ≡ change new old
exchanged = change-swap

-- a valid row against itself: nothing counts, nothing is due
pub same_row : (r : Row) → valid_row r ≡ true → change r r ≡ compared no_thirds false
same_row = change-self

-- "times don't matter": nothing of a time but that it is real
pub times-aside : (old new : Row) (t s : ℕ) → real_time t ≡ real_time old.time → real_time s ≡ real_time new.time
    → change (at_time t old) (at_time s new) ≡ change old new
times-aside = change-at

-- so two rows that differ only in time are not due
pub time-alone : (r : Row) (t : ℕ) → valid_row r ≡ true → real_time t ≡ real_time r.time → change r (at_time t r) ≡ compared no_thirds false
time-alone r t v h = change-at r r r.time t refl h ∙ change-self r v
