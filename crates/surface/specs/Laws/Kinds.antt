-- What is shown of each of the fifteen kinds in turn holds of every kind.
use Rattle.std.specs.Prelude.{ℕ, zero, suc, ◌+◌, ◌≤◌, ◌<◌, ◌≡◌, refl, Bool, true, false, eqb}
use Rattle.std.proofs.Common.{eqb-true, leb-true, arith}
use Rattle.std.proofs.lemmas.Bool.{eqb-false}
use Rattle.text.specs.Laws.Base.{and-1, and-2}
use Rattle.surface.specs.Descriptions.{compacted_snow, dry_snow, dry_snow_on_compacted_snow, dry_snow_on_ice, frost, ice, slush, standing_water}
use Rattle.surface.specs.Descriptions.{water_on_compacted_snow, wet, wet_ice, wet_snow, wet_snow_on_compacted_snow, wet_snow_on_ice, dry}
use Rattle.surface.specs.Assess.{is_kind}

-- P of count numbers from n on
abbrev AllFrom : (ℕ → Type 0) → ℕ → ℕ → Type 0
AllFrom P n zero = Unit {0}
AllFrom P n (suc count) = P n × AllFrom P (suc n) count

one_of : (P : ℕ → Type 0) (count n : ℕ) → AllFrom P n count → (k : ℕ) → n ≤ k → k < n + count → P k
one_of P zero n all k low high = absurd (omega arith)
one_of P (suc count) n all k low high = go (eqb k n) refl (λ above. one_of P count (suc n) all.1 k above (omega arith))
  where
    go : (t : Bool) → eqb k n ≡ t → (suc n ≤ k → P k) → P k
    go true e later = rw (eqb-true k n e) all.0
    go false e later = later (omega (arith, eqb-false k n e))

-- P of each of the fifteen
pub record Each (P : ℕ → Type 0) : Type 0 where
  pub of-compacted-snow : P compacted_snow
  pub of-dry-snow : P dry_snow
  pub of-dry-snow-on-compacted-snow : P dry_snow_on_compacted_snow
  pub of-dry-snow-on-ice : P dry_snow_on_ice
  pub of-frost : P frost
  pub of-ice : P ice
  pub of-slush : P slush
  pub of-standing-water : P standing_water
  pub of-water-on-compacted-snow : P water_on_compacted_snow
  pub of-wet : P wet
  pub of-wet-ice : P wet_ice
  pub of-wet-snow : P wet_snow
  pub of-wet-snow-on-compacted-snow : P wet_snow_on_compacted_snow
  pub of-wet-snow-on-ice : P wet_snow_on_ice
  pub of-dry : P dry

in-turn : {P : ℕ → Type 0} → Each P → AllFrom P 1 15
in-turn e = (
  e.of-compacted-snow,
  (
    e.of-dry-snow,
    (
      e.of-dry-snow-on-compacted-snow,
      (
        e.of-dry-snow-on-ice,
        (
          e.of-frost,
          (
            e.of-ice,
            (
              e.of-slush,
              (
                e.of-standing-water,
                (
                  e.of-water-on-compacted-snow,
                  (e.of-wet, (e.of-wet-ice, (e.of-wet-snow, (e.of-wet-snow-on-compacted-snow, (e.of-wet-snow-on-ice, (e.of-dry, tt)))))),
                ),
              ),
            ),
          ),
        ),
      ),
    ),
  ),
)

pub every-kind : (P : ℕ → Type 0) → Each P → (k : ℕ) → is_kind k ≡ true → P k
unfolding is_kind
every-kind P each k h =
    one_of P 15 1 (in-turn each) k (omega (arith, leb-true compacted_snow k (and-1 _ _ h))) (omega (arith, leb-true k dry (and-2 _ _ h)))
