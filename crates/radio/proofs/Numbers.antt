-- A number read from the first bytes of a record, and put in its groups.
use Rattle.std.proofs.Common.{ℕ, ◌+◌, ◌-◌, ◌*◌, ◌/◌, ◌%◌, ◌<◌, ◌≤◌, ◌≡◌, List, [], ◌∷◌, length, get_or, Ok, Err, refl, lt-ltb, le-ltb, le-leb, arith}
use Rattle.text.specs.declared.refusal.Refusal.TheVariants.{RecordCutShort, NumberForm}
use Rattle.radio.specs.Number.{groups, number_bytes, read_groups, read_number}
use Rattle.radio.specs.Code.Held.{HeldNumber}

-- the number ends with its first, second or third group
pub one-group : (s : List ℕ) {x : ℕ} → 1 ≤ length s → get_or s 0 0 < 128 → x ≡ get_or s 0 0 → HeldNumber s (read_number s) (Ok (record { value = x; next = 1 }))
unfolding read_groups
one-group [] l h e = absurd (omega arith)
one-group (a ∷ s) l h e = record { within = omega arith; says = rw (lt-ltb a 128 h, le-leb 0 a (omega arith), e) }

pub two-groups : (s : List ℕ) {x : ℕ} → 2 ≤ length s → 128 ≤ get_or s 0 0 → 0 < get_or s 1 0 → get_or s 1 0 < 128
    → x ≡ get_or s 0 0 - 128 + 128 * get_or s 1 0 → HeldNumber s (read_number s) (Ok (record { value = x; next = 2 }))
unfolding read_groups
two-groups [] l g k h e = absurd (omega arith)
two-groups (a ∷ []) l g k h e = absurd (omega arith)
two-groups (a ∷ b ∷ s) l g k h e = record { within = omega arith; says = rw (le-ltb a 128 g, lt-ltb b 128 h, le-leb 1 b k, e) }

pub three-groups : (s : List ℕ) {x : ℕ} → 3 ≤ length s → 128 ≤ get_or s 0 0 → 128 ≤ get_or s 1 0 → 0 < get_or s 2 0 → get_or s 2 0 < 128
    → x ≡ get_or s 0 0 - 128 + 128 * (get_or s 1 0 - 128 + 128 * get_or s 2 0) → HeldNumber s (read_number s) (Ok (record { value = x; next = 3 }))
unfolding read_groups
three-groups [] l f g k h e = absurd (omega arith)
three-groups (a ∷ []) l f g k h e = absurd (omega arith)
three-groups (a ∷ b ∷ []) l f g k h e = absurd (omega arith)
three-groups (a ∷ b ∷ c ∷ s) l f g k h e = record { within = omega arith; says = rw (le-ltb a 128 f, le-ltb b 128 g, lt-ltb c 128 h, le-leb 1 c k, e) }

-- the second or the third is a last group of zero, or the third is none
pub zero-second : (s : List ℕ) → 2 ≤ length s → 128 ≤ get_or s 0 0 → get_or s 1 0 ≡ 0 → HeldNumber s (read_number s) (Err NumberForm)
unfolding read_groups
zero-second [] l g h = absurd (omega arith)
zero-second (a ∷ []) l g h = absurd (omega arith)
zero-second (a ∷ b ∷ s) l g h = record { within = omega arith; says = rw (le-ltb a 128 g, h) }

pub zero-third : (s : List ℕ) → 3 ≤ length s → 128 ≤ get_or s 0 0 → 128 ≤ get_or s 1 0 → get_or s 2 0 ≡ 0 → HeldNumber s (read_number s) (Err NumberForm)
unfolding read_groups
zero-third [] l f g h = absurd (omega arith)
zero-third (a ∷ []) l f g h = absurd (omega arith)
zero-third (a ∷ b ∷ []) l f g h = absurd (omega arith)
zero-third (a ∷ b ∷ c ∷ s) l f g h = record { within = omega arith; says = rw (le-ltb a 128 f, le-ltb b 128 g, h) }

pub no_last : (s : List ℕ) → 3 ≤ length s → 128 ≤ get_or s 0 0 → 128 ≤ get_or s 1 0 → 128 ≤ get_or s 2 0 → HeldNumber s (read_number s) (Err NumberForm)
unfolding read_groups
no_last [] l f g h = absurd (omega arith)
no_last (a ∷ []) l f g h = absurd (omega arith)
no_last (a ∷ b ∷ []) l f g h = absurd (omega arith)
no_last (a ∷ b ∷ c ∷ s) l f g h = record { within = omega arith; says = rw (le-ltb a 128 f, le-ltb b 128 g, le-ltb c 128 h) }

-- the record ends before it
pub cut-at : (s : List ℕ) → length s < 3 → (1 ≤ length s → 128 ≤ get_or s 0 0) → (2 ≤ length s → 128 ≤ get_or s 1 0)
    → HeldNumber s (read_number s) (Err RecordCutShort)
unfolding read_groups
cut-at [] l g h = record { within = omega arith; says = refl }
cut-at (a ∷ []) l g h = record { within = omega arith; says = rw (le-ltb a 128 (g (omega arith))) }
cut-at (a ∷ b ∷ []) l g h = record { within = omega arith; says = rw (le-ltb a 128 (g (omega arith)), le-ltb b 128 (h (omega arith))) }
cut-at (a ∷ b ∷ c ∷ s) l g h = absurd (omega arith)

-- the groups that are put
pub put-one : (x : ℕ) → x < 128 → number_bytes x ≡ x ∷ []
unfolding groups
put-one x h = rw (lt-ltb x 128 h)

pub put-two : (x : ℕ) → 128 ≤ x → x / 128 < 128 → number_bytes x ≡ (x % 128 + 128) ∷ x / 128 ∷ []
unfolding groups
put-two x h k = rw (le-ltb x 128 h, lt-ltb (x / 128) 128 k)

pub put-three : (x : ℕ) → 128 ≤ x → 128 ≤ x / 128 → number_bytes x ≡ (x % 128 + 128) ∷ (x / 128 % 128 + 128) ∷ x / 128 / 128 ∷ []
unfolding groups
put-three x h k = rw (le-ltb x 128 h, le-ltb (x / 128) 128 k)
