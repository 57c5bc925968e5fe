-- A row against another: both ways round, against itself, at other times, and what is refused.
use Rattle.std.specs.Prelude.{ℕ, zero, suc, ◌<◌, ◌≡◌, refl, [], ◌∷◌, cond, Bool, true, false, not, eqb, get_or}
use Rattle.std.proofs.Common.{◌∙◌, arith}
use borrow.Author.Tests.{eqb-false, ne_eqb, not-true}
use Rattle.row.specs.declared.Row.{Row}
use Rattle.row.specs.Row.{third_of}
use Rattle.due.specs.Third.{third_counts}
use Rattle.due.specs.Change.{counts_of, some, is_due}
use Rattle.due.specs.Counts.{Counts, Due, by-third, by_width}
use Rattle.due.proofs.Laws.Third.{each_counts, reason}
use Rattle.due.specs.Laws.Change.{counts-at}

-- ---- what is due

either : (t : Bool) {b : Bool} → b ≡ true → cond t true b ≡ true
either true h = refl
either false h = h

some-here : (a b c : Bool) (i : ℕ) → i < 3 → get_or (a ∷ b ∷ c ∷ []) i false ≡ true → some (a ∷ b ∷ c ∷ []) ≡ true
some-here a b c zero h e = rw e
some-here a b c (suc zero) h e = rw e (either a refl)
some-here a b c (suc (suc zero)) h e = rw e (either a (either b refl))
some-here a b c (suc (suc (suc i))) h e = absurd (omega arith)

pub due-by : (old new : Row) → Due old new → is_due old new ≡ true
unfolding is_due counts_of
due-by old new (by-third i h k) = rw (some-here _ _ _ i h (counts-at old new i h ∙ each_counts (third_of old i) (third_of new i) k))
due-by old new (by_width h) = rw (ne_eqb old.width new.width h) (either (some (counts_of old new)) refl)

pub due-why : (old new : Row) → is_due old new ≡ true → Due old new
unfolding is_due counts_of
due-why old new = go (counted 0) refl (counted 1) refl (counted 2) refl
  where
    counted : ℕ → Bool
    counted i = third_counts (third_of old i) (third_of new i)

    why : (i : ℕ) → counted i ≡ true → Counts (third_of old i) (third_of new i)
    why i = reason (third_of old i) (third_of new i)

    go : (t : Bool) → counted 0 ≡ t → (u : Bool) → counted 1 ≡ u → (v : Bool) → counted 2 ≡ v
        → cond (some (t ∷ u ∷ v ∷ [])) true (not (eqb old.width new.width)) ≡ true → Due old new
    go true p u q v r h = by-third 0 (omega arith) (why 0 p)
    go false p true q v r h = by-third 1 (omega arith) (why 1 q)
    go false p false q true r h = by-third 2 (omega arith) (why 2 r)
    go false p false q false r h = by_width (eqb-false old.width new.width (not-true _ h))
