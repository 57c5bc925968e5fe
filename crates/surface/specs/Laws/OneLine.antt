-- Table 1 has exactly one entry for a kind, so observed: "the code" of an observation is that entry's.
use Rattle.std.specs.Prelude.{ℕ, suc, ◌≡◌, refl, List, [], ◌∷◌, Bool, true, false, not, eqb, leb, ltb, ℤ}
use Rattle.std.specs.Int.Signed.{le_z, lt_z}
use Rattle.text.specs.Choice.{◌and◌}
use Rattle.surface.specs.declared.Observation.{Observation}
use Rattle.surface.specs.declared.Entry.{Entry}
use Rattle.surface.specs.Descriptions.{standing_water}
use Rattle.surface.specs.Table1.{table1, minus15_degrees, is_named, holds, is_for}
use Rattle.surface.specs.Assess.{is_kind, is_shallow}
use Rattle.surface.specs.Laws.Figures.{over-is, milder-is}
use Rattle.surface.specs.Laws.Kinds.{Each, every-kind}

-- one more if the test holds
abbrev pub counted : Bool → ℕ → ℕ
counted true n = suc n
counted false n = n

-- how many of the entries fit
unfoldable pub how_many : List Entry → ℕ → Observation → ℕ
how_many [] k o = 0
how_many (e ∷ es) k o = counted (is_for e k o) (how_many es k o)

-- STANDING WATER to 3 mm, which is reported as WET and has no entry
abbrev pub is_thin : ℕ → Observation → Bool
is_thin k o = eqb k standing_water and is_shallow o.depth

-- two entries of one kind, of which one is for what the other leaves
one_of_two : (t : Bool) → counted t (counted (not t) 0) ≡ 1
one_of_two true = refl
one_of_two false = refl

other-of-two : (t : Bool) → counted (not t) (counted t 0) ≡ 1
other-of-two true = refl
other-of-two false = refl

by-depth : (d mm : ℕ) → counted (leb d mm) (counted (ltb mm d) 0) ≡ 1
by-depth d mm = rw (over-is mm d) (one_of_two (leb d mm))

by-temperature : (t tenths : ℤ) → counted (le_z t tenths) (counted (lt_z tenths t) 0) ≡ 1
by-temperature t tenths = rw (milder-is tenths t) (one_of_two (le_z t tenths))

only-over : (d mm : ℕ) → leb d mm ≡ false → counted (ltb mm d) 0 ≡ 1
only-over d mm h = rw (over-is mm d, h)

abbrev HasOne : Observation → ℕ → Type 0
HasOne o k = is_thin k o ≡ false → how_many table1 k o ≡ 1

each-has-one : (o : Observation) → Each (HasOne o)
unfolding ◌and◌ table1 is_named holds is_for is_shallow how_many
each-has-one o =
    record {
      of-compacted-snow = λ _. by-temperature o.temperature minus15_degrees;
      of-dry-snow = λ _. by-depth o.depth 3;
      of-dry-snow-on-compacted-snow = λ _. refl;
      of-dry-snow-on-ice = λ _. refl;
      of-frost = λ _. refl;
      of-ice = λ _. refl;
      of-slush = λ _. by-depth o.depth 3;
      of-standing-water = only-over o.depth 3;
      of-water-on-compacted-snow = λ _. refl;
      of-wet = λ _. other-of-two o.slippery;
      of-wet-ice = λ _. refl;
      of-wet-snow = λ _. by-depth o.depth 3;
      of-wet-snow-on-compacted-snow = λ _. refl;
      of-wet-snow-on-ice = λ _. refl;
      of-dry = λ _. refl;
    }

pub one_line : (o : Observation) (k : ℕ) → is_kind k ≡ true → is_thin k o ≡ false → how_many table1 k o ≡ 1
one_line o = every-kind (HasOne o) (each-has-one o)
