-- A row against another: both ways round, against itself, at other times, and what is refused.
use Rattle.std.specs.Prelude.{ℕ, zero, suc, ◌<◌, ◌≡◌, refl, cond, Bool, true, false, get_or}
use Rattle.std.proofs.Common.{arith}
use borrow.Author.Tests.{eqb-true, eq-eqb}
use Rattle.text.specs.Choice.{◌and◌}
use Rattle.text.specs.Laws.Base.{and-1, and-2, and_i}
use Rattle.runway.specs.Time.{real_time}
use Rattle.row.specs.declared.Row.{Row}
use Rattle.row.specs.Row.{valid_row, third_of, same_runway}
use Rattle.due.specs.declared.Change.{Change}
use Rattle.due.specs.Third.{third_counts}
use Rattle.due.specs.Change.{counts_of, is_due, compared, no_thirds, refused, change}
use Rattle.due.specs.Counts.{Comparable}
use Rattle.due.specs.Laws.Third.{eqb_swap, third-swap, third-self}

-- ---- both ways round

both-swap : (a b : Bool) → (a and b) ≡ (b and a)
unfolding ◌and◌
both-swap true true = refl
both-swap true false = refl
both-swap false true = refl
both-swap false false = refl

runway-swap : (a b : Row) → same_runway a b ≡ same_runway b a
unfolding same_runway
runway-swap a b = rw (eqb_swap a.number b.number, eqb_swap a.side b.side)

counts-swap : (a b : Row) → counts_of a b ≡ counts_of b a
unfolding counts_of
counts-swap a b = rw (third-swap (third_of a 0) (third_of b 0), third-swap (third_of a 1) (third_of b 1), third-swap (third_of a 2) (third_of b 2))

due-swap : (a b : Row) → is_due a b ≡ is_due b a
unfolding is_due
due-swap a b = rw (counts-swap a b, eqb_swap a.width b.width)

pub change-swap : (a b : Row) → change a b ≡ change b a
unfolding change
change-swap a b = rw (both-swap (valid_row a) (valid_row b), runway-swap a b, counts-swap a b, due-swap a b)

-- ---- against itself

runway-self : (r : Row) → same_runway r r ≡ true
unfolding same_runway
runway-self r = and_i (eq-eqb r.number r.number refl) (eq-eqb r.side r.side refl)

counts-self : (r : Row) → counts_of r r ≡ no_thirds
unfolding counts_of
counts-self r = rw (third-self (third_of r 0), third-self (third_of r 1), third-self (third_of r 2))

due-self : (r : Row) → is_due r r ≡ false
unfolding is_due
due-self r = rw (counts-self r, eq-eqb r.width r.width refl)

pub change-self : (r : Row) → valid_row r ≡ true → change r r ≡ compared no_thirds false
unfolding ◌and◌ change
change-self r h = rw (h, runway-self r, counts-self r, due-self r)

-- ---- at other times

-- the row as observed at another time
abbrev pub at_time : ℕ → Row → Row
at_time t r = record { time = t; number = r.number; side = r.side; thirds = r.thirds; width = r.width }

valid-at : (t : ℕ) (r : Row) → real_time t ≡ real_time r.time → valid_row (at_time t r) ≡ valid_row r
unfolding valid_row
valid-at t r h = rw h

pub change-at : (a b : Row) (t s : ℕ) → real_time t ≡ real_time a.time → real_time s ≡ real_time b.time → change (at_time t a) (at_time s b) ≡ change a b
unfolding change same_runway counts_of is_due
change-at a b t s h k = rw (valid-at t a h, valid-at s b k)

-- ---- what is refused

pub comparable : {a b : Row} → Comparable a b → change a b ≡ compared (counts_of a b) (is_due a b)
unfolding change same_runway ◌and◌
comparable {a} {b} c = rw (c.old-valid, c.new-valid, eq-eqb a.number b.number c.number, eq-eqb a.side b.side c.side)

-- 19, 29 or an answer, and there is no fourth case
pub data Case (a b : Row) : Change → Type 0 where
  case-invalid : (valid_row a and valid_row b) ≡ false → Case a b (refused 19)
  case-apart : valid_row a ≡ true → valid_row b ≡ true → same_runway a b ≡ false → Case a b (refused 29)
  case-compared : Comparable a b → Case a b (compared (counts_of a b) (is_due a b))

pub case-of : (a b : Row) → Case a b (change a b)
unfolding change
case-of a b = go (valid_row a and valid_row b) refl (same_runway a b) refl
  where
    one : same_runway a b ≡ true → (a.number ≡ b.number) × (a.side ≡ b.side)
    one = unfold same_runway in λ h. (eqb-true a.number b.number (and-1 _ _ h), eqb-true a.side b.side (and-2 _ _ h))

    go : (t : Bool) → (valid_row a and valid_row b) ≡ t → (u : Bool) → same_runway a b ≡ u
        → Case a b (cond t (cond u (compared (counts_of a b) (is_due a b)) (refused 29)) (refused 19))
    go false e u f = case-invalid e
    go true e false f = case-apart (and-1 _ _ e) (and-2 _ _ e) f
    go true e true f = case-compared (record { old-valid = and-1 _ _ e; new-valid = and-2 _ _ e; number = (one f).0; side = (one f).1 })

-- ---- what is due

pub none-at : (i : ℕ) → get_or no_thirds i false ≡ false
none-at zero = refl
none-at (suc zero) = refl
none-at (suc (suc zero)) = refl
none-at (suc (suc (suc i))) = refl

pub counts-at : (a b : Row) (i : ℕ) → i < 3 → get_or (counts_of a b) i false ≡ third_counts (third_of a i) (third_of b i)
unfolding counts_of
counts-at a b zero h = refl
counts-at a b (suc zero) h = refl
counts-at a b (suc (suc zero)) h = refl
counts-at a b (suc (suc (suc i))) h = absurd (omega arith)
