-- "the first met from the left": what refuses a record, other than its end, refuses it whatever follows.
use Rattle.std.specs.Prelude.{ℕ, zero, suc, ◌+◌, ◌*◌, ◌-◌, ◌≡◌, refl, List, [], ◌∷◌, ◌++◌, Bool, true, false, not, cond, ltb, leb}
use Rattle.std.proofs.Common.{sym, ap, subst}
use Rattle.text.specs.Choice.{is_empty}
use Rattle.radio.specs.Outcome.{Outcome, refuse, taken, next, need}
use Rattle.row.specs.declared.Row.{Row}
use Rattle.row.specs.Row.{blank_row, valid_row}
use Rattle.body.specs.Rows.{is_among}
use Rattle.radio.specs.Number.{Part, part, higher, read_groups, read_number}
use Rattle.radio.specs.declared.Field.{Field}
use Rattle.radio.specs.Fields.{order, may_be, fill, read_fields}
use Rattle.radio.specs.Record.{is_count, read_row, read_rows, read_record}

-- a reading and the reading with k behind the record: a refusal other than 30 stays, and what is taken leaves k too
abbrev pub Goes : {A : Type 0} → List ℕ → Outcome (Part A) → Outcome (Part A) → Type 0
Goes k (refuse n) o = (n ≡ 30 → ⊥) → o ≡ refuse n
Goes k (taken p) o = o ≡ taken (part p.value (p.rest ++ k))

-- a whole reading: what is taken does not stay so with a byte behind it
abbrev pub Stays : {A : Type 0} → Outcome A → Outcome A → Type 0
Stays (refuse n) o = (n ≡ 30 → ⊥) → o ≡ refuse n
Stays (taken a) o = o ≡ refuse 32

need-goes : {A : Type 0} (k : List ℕ) (n : ℕ) (t : Bool) (o o' : Outcome (Part A)) → Goes k o o' → Goes k (need n t o) (need n t o')
need-goes k n true o o' h = h
need-goes k n false o o' h = λ _. refl

next-goes : {A B : Type 0} (k : List ℕ) (o o' : Outcome (Part A)) (f : Part A → Outcome (Part B)) → Goes k o o'
    → ((p : Part A) → Goes k (f p) (f (part p.value (p.rest ++ k)))) → Goes k (next o f) (next o' f)
next-goes k (refuse n) o' f h g = λ c. ap (λ o. next o f) (h c)
next-goes k (taken p) o' f h g = subst (λ o. Goes k (f p) (next o f)) (sym h) (g p)

cond_goes : {A : Type 0} (k : List ℕ) (t : Bool) (o o' u u' : Outcome (Part A)) → Goes k o o' → Goes k u u' → Goes k (cond t o u) (cond t o' u')
cond_goes k true o o' u u' h g = h
cond_goes k false o o' u u' h g = g

groups-goes : (n least : ℕ) (m k : List ℕ) → Goes k (read_groups n least m) (read_groups n least (m ++ k))
unfolding read_groups
groups-goes n least [] k = λ h. absurd (h refl)
groups-goes zero least (x ∷ m) k = need-goes k 31 (ltb x 128) _ _ (need-goes k 31 (leb least x) (taken (part x m)) (taken (part x (m ++ k))) refl)
groups-goes (suc n) least (x ∷ m) k =
    cond_goes k (ltb x 128) _ _ (higher x (read_groups n 1 m)) (higher x (read_groups n 1 (m ++ k)))
    (need-goes k 31 (leb least x) (taken (part x m)) (taken (part x (m ++ k))) refl)
    (next-goes k (read_groups n 1 m) (read_groups n 1 (m ++ k)) (λ p. taken (part (x - 128 + 128 * p.value) p.rest)) (groups-goes n 1 m k) (λ p. refl))

fields-goes : (fs : List Field) (r : Row) (m k : List ℕ) → Goes k (read_fields fs r m) (read_fields fs r (m ++ k))
unfolding read_fields
fields-goes [] r m k = refl
fields-goes (f ∷ fs) r m k =
    next-goes k (read_number m) (read_number (m ++ k)) (λ p. need 32 (may_be f p.value) (read_fields fs (fill r f p.value) p.rest)) (groups-goes 2 0 m k)
    (λ p. need-goes k 32 (may_be f p.value) _ _ (fields-goes fs (fill r f p.value) p.rest k))

row_goes : (m k : List ℕ) → Goes k (read_row m) (read_row (m ++ k))
row_goes m k = next-goes k (read_fields order blank_row m) (read_fields order blank_row (m ++ k)) (λ p. need 32 (valid_row p.value) (taken p)) (fields-goes order blank_row m k)
    (λ p. need-goes k 32 (valid_row p.value) (taken p) (taken (part p.value (p.rest ++ k))) refl)

need-stays : {A : Type 0} (n : ℕ) (t : Bool) (o o' : Outcome A) → Stays o o' → Stays (need n t o) (need n t o')
need-stays n true o o' h = h
need-stays n false o o' h = λ _. refl

next-stays : {A B : Type 0} (k : List ℕ) (o o' : Outcome (Part A)) (f : Part A → Outcome B) → Goes k o o'
    → ((p : Part A) → Stays (f p) (f (part p.value (p.rest ++ k)))) → Stays (next o f) (next o' f)
next-stays k (refuse n) o' f h g = λ c. ap (λ o. next o f) (h c)
next-stays k (taken p) o' f h g = subst (λ o. Stays (f p) (next o f)) (sym h) (g p)

end_stays : (seen : List Row) (m : List ℕ) (x : ℕ) (k : List ℕ) → Stays (need 32 (is_empty m) (taken seen)) (need 32 (is_empty (m ++ (x ∷ k))) (taken seen))
end_stays seen [] x k = refl
end_stays seen (y ∷ m) x k = λ _. refl

rows_stay : (n : ℕ) (seen : List Row) (m : List ℕ) (x : ℕ) (k : List ℕ) → Stays (read_rows n seen m) (read_rows n seen (m ++ (x ∷ k)))
unfolding read_rows
rows_stay zero seen m x k = end_stays seen m x k
rows_stay (suc n) seen m x k =
    next-stays (x ∷ k) (read_row m) (read_row (m ++ (x ∷ k))) (λ p. need 32 (not (is_among p.value seen)) (read_rows n (seen ++ (p.value ∷ [])) p.rest)) (row_goes m (x ∷ k))
    (λ p. need-stays 32 (not (is_among p.value seen)) _ _ (rows_stay n (seen ++ (p.value ∷ [])) p.rest x k))

-- with a byte more, and whatever follows it: a refusal other than 30 stays, and what was taken has bytes left over
pub record-stays : (m : List ℕ) (x : ℕ) (k : List ℕ) → Stays (read_record m) (read_record (m ++ (x ∷ k)))
unfolding read_record
record-stays m x k =
    next-stays (x ∷ k) (read_number m) (read_number (m ++ (x ∷ k))) (λ p. need 32 (is_count p.value) (read_rows p.value [] p.rest)) (groups-goes 2 0 m (x ∷ k))
    (λ p. need-stays 32 (is_count p.value) _ _ (rows_stay p.value [] p.rest x k))
