-- Which numbers refuse.
use Rattle.std.specs.Prelude.{ℕ, zero, suc, ◌+◌, ◌*◌, ◌-◌, ◌≡◌, refl, List, [], ◌∷◌, ◌++◌, Bool, true, false, not, cond, ltb, leb, length}
use Rattle.std.proofs.Common.{sym, ap, ◌∙◌, subst}
use Rattle.text.specs.Refusals.{cut_short, number_form, radio_value, invalid_row, buffer_too_short}
use Rattle.text.specs.Choice.{all, member, is_empty}
use Rattle.radio.specs.Outcome.{Outcome, refuse, taken, next, need}
use Rattle.text.specs.Laws.Base.{true-false}
use Rattle.row.specs.declared.Row.{Row}
use Rattle.row.specs.Row.{blank_row, valid_row}
use Rattle.body.specs.declared.Rows.{Rows}
use Rattle.body.specs.Rows.{rows_of, is_among, new_runways}
use Rattle.radio.specs.Number.{part, read_groups, read_number}
use Rattle.radio.specs.declared.Field.{Field}
use Rattle.radio.specs.Fields.{order, may_be, fill, read_fields}
use Rattle.radio.specs.Record.{is_count, radio_record, read_row, read_rows, read_record, write_record}
use Rattle.radio.specs.Answers.{sending}

-- a refusal is one of the numbers
abbrev pub Within : {A : Type 0} → List ℕ → Outcome A → Type 0
Within ns (refuse n) = member ns n ≡ true
Within ns (taken a) = Unit {0}

need-within : {A : Type 0} (ns : List ℕ) (n : ℕ) (t : Bool) (o : Outcome A) → member ns n ≡ true → Within ns o → Within ns (need n t o)
need-within ns n true o h k = k
need-within ns n false o h k = h

next-within : {A B : Type 0} (ns : List ℕ) (o : Outcome A) (f : A → Outcome B) → Within ns o → ((a : A) → Within ns (f a)) → Within ns (next o f)
next-within ns (refuse n) f h k = h
next-within ns (taken a) f h k = k a

cond-within : {A : Type 0} (ns : List ℕ) (t : Bool) (o u : Outcome A) → Within ns o → Within ns u → Within ns (cond t o u)
cond-within ns true o u h k = h
cond-within ns false o u h k = k

-- reading refuses by these
abbrev pub reading_refusals : List ℕ
reading_refusals = cut_short ∷ number_form ∷ radio_value ∷ []

-- and writing by these
abbrev pub writing_refusals : List ℕ
writing_refusals = radio_value ∷ invalid_row ∷ buffer_too_short ∷ []

groups-within : (n least : ℕ) (m : List ℕ) → Within reading_refusals (read_groups n least m)
unfolding read_groups
groups-within n least [] = refl
groups-within zero least (x ∷ m) = need-within reading_refusals 31 (ltb x 128) _ refl (need-within reading_refusals 31 (leb least x) (taken (part x m)) refl tt)
groups-within (suc n) least (x ∷ m) = cond-within reading_refusals (ltb x 128) _ _ (need-within reading_refusals 31 (leb least x) (taken (part x m)) refl tt)
    (next-within reading_refusals (read_groups n 1 m) (λ p. taken (part (x - 128 + 128 * p.value) p.rest)) (groups-within n 1 m) (λ p. tt))

fields_within : (fs : List Field) (r : Row) (m : List ℕ) → Within reading_refusals (read_fields fs r m)
unfolding read_fields
fields_within [] r m = tt
fields_within (f ∷ fs) r m = next-within reading_refusals (read_number m) (λ p. need 32 (may_be f p.value) (read_fields fs (fill r f p.value) p.rest)) (groups-within 2 0 m)
    (λ p. need-within reading_refusals 32 (may_be f p.value) _ refl (fields_within fs (fill r f p.value) p.rest))

row_within : (m : List ℕ) → Within reading_refusals (read_row m)
row_within m = next-within reading_refusals (read_fields order blank_row m) (λ p. need 32 (valid_row p.value) (taken p)) (fields_within order blank_row m)
    (λ p. need-within reading_refusals 32 (valid_row p.value) (taken p) refl tt)

rows-within : (n : ℕ) (seen : List Row) (m : List ℕ) → Within reading_refusals (read_rows n seen m)
unfolding read_rows
rows-within zero seen m = need-within reading_refusals 32 (is_empty m) (taken seen) refl tt
rows-within (suc n) seen m = next-within reading_refusals (read_row m) (λ p. need 32 (not (is_among p.value seen)) (read_rows n (seen ++ (p.value ∷ [])) p.rest)) (row_within m)
    (λ p. need-within reading_refusals 32 (not (is_among p.value seen)) _ refl (rows-within n (seen ++ (p.value ∷ [])) p.rest))

pub record-within : (m : List ℕ) → Within reading_refusals (read_record m)
unfolding read_record
record-within m = next-within reading_refusals (read_number m) (λ p. need 32 (is_count p.value) (read_rows p.value [] p.rest)) (groups-within 2 0 m)
    (λ p. need-within reading_refusals 32 (is_count p.value) _ refl (rows-within p.value [] p.rest))

pub write-within : (room : ℕ) (rows : List Row) → Within writing_refusals (write_record room rows)
unfolding write_record
write-within room rows =
    need-within writing_refusals 32 (is_count (length rows)) _ refl (need-within writing_refusals 19 (all valid_row rows) _ refl
    (need-within writing_refusals 32 (new_runways [] rows) _ refl (need-within writing_refusals 14 (leb (length (radio_record rows)) room) (taken (radio_record rows)) refl tt)))

pub sending-within : (room : ℕ) (r : Rows) → Within writing_refusals (sending room r)
unfolding sending
sending-within room r = need-within writing_refusals radio_value (is_count r.count) _ refl (write-within room (rows_of r))

-- 0 refuses nothing
pub not-by-zero : {A : Type 0} (ns : List ℕ) (o : Outcome A) → member ns 0 ≡ false → Within ns o → (n : ℕ) → o ≡ refuse n → n ≡ 0 → ⊥
not-by-zero ns o z w n e k =
    let h : member ns n ≡ true = subst (Within ns) e w in
    true-false (sym (ap (member ns) (sym k) ∙ h) ∙ z)
