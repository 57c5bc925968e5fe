-- What the assessor reports is a third that a row may hold, and its code agrees with Table 1.
use Rattle.std.specs.Prelude.{ℕ, suc, ◌≡◌, cond, not, eqb, leb, ltb}
use Rattle.std.proofs.Math.Path.{refl}
use Rattle.std.proofs.Common.{sym, ◌∙◌, leb-true, le-leb, eq-eqb, ltb-true, ltb-false, lt-ltb, arith}
use Rattle.std.proofs.Math.Bool.{Bool, true, false}
use mathlib.Core.List.{List, [], ◌∷◌}
use Rattle.std.proofs.lemmas.Bool.{eqb-false}
use Rattle.text.specs.Choice.{◌and◌, all, first_fitting}
use Rattle.text.specs.Laws.Base.{and-1, and-2, and_i}
use Rattle.text.specs.Laws.Names.{all-at}
use Rattle.surface.specs.declared.Third.{Third}
use Rattle.surface.specs.declared.Observation.{Observation}
use Rattle.surface.specs.declared.Entry.{Entry}
use Rattle.surface.specs.declared.Condition.{Condition}
use Rattle.surface.specs.declared.Condition.TheVariants.{Always, NotSlippery, Slippery, DepthTo, DepthOver, TemperatureTo, TemperatureOver}
use Rattle.surface.specs.Descriptions.{not_reported, wet, wet_snow_on_ice, dry, is_contaminant, is_deep}
use Rattle.surface.specs.Third.{third, blank_third, is_code, is_coverage, valid_coverage, least_depth, is_reported, valid_depth, valid_third, greatest_depth}
use Rattle.surface.specs.Table1.{table1, named, code, kinds, condition, is_named, holds, is_for, can_hold, allows, agrees}
use Rattle.surface.specs.Assess.{is_kind, in_range, covered_dry, contradictory, coverage_for, uncovered, is_thin_water, reported_kind, reported_depth}
use Rattle.surface.specs.Assess.{covered, assessed, assessing, least_cover, assessed_as, refused_assessing}
use Rattle.text.specs.Refusals.{out_of_range, contradiction}
use Rattle.surface.specs.Laws.OneLine.{counted, how_many, is_thin, one_line}

either : (t : Bool) {b : Bool} → b ≡ true → cond t true b ≡ true
either true h = refl
either false h = h

-- ---- depth

-- a depth that is reported is the one observed, and one that is not is NR, which is 0: so what is to a figure stays so
to-stays : (k d mm : ℕ) → leb d mm ≡ true → leb (reported_depth k d) mm ≡ true
unfolding reported_depth
to-stays k d mm h = go (is_reported k d)
  where
    go : (t : Bool) → leb (cond t d not_reported) mm ≡ true
    go true = h
    go false = le-leb not_reported mm (omega arith)

-- and what is over a figure, of a kind that is reported from there on, is reported as it is
over-stays : (k d mm : ℕ) → is_reported k (suc mm) ≡ true → ltb mm d ≡ true → ltb mm (reported_depth k d) ≡ true
unfolding reported_depth is_reported
over-stays k d mm r h = rw (and_i (and-1 _ _ r) (le-leb (least_depth k) d (omega (arith, leb-true (least_depth k) (suc mm) (and-2 _ _ r), ltb-true mm d h)))) h

valid-depth : (k d code coverage : ℕ) → leb d greatest_depth ≡ true → valid_depth (third code coverage (reported_depth k d) k) ≡ true
unfolding valid_depth reported_depth
valid-depth k d code coverage h = go (is_reported k d) refl
  where
    go : (t : Bool) → is_reported k d ≡ t → cond (eqb (cond t d not_reported) not_reported) true
        (is_reported k (cond t d not_reported) and leb (cond t d not_reported) greatest_depth) ≡ true
    go true e = either (eqb d not_reported) (and_i e h)
    go false e = refl

-- ---- coverage

a-coverage : (x y z : Bool) → is_coverage (cond x 25 (cond y 50 (cond z 75 100))) ≡ true
unfolding is_coverage
a-coverage true y z = refl
a-coverage false true z = refl
a-coverage false false true = refl
a-coverage false false false = refl

valid-coverage : (k c code depth : ℕ) → is_contaminant k ≡ true → valid_coverage (third code (coverage_for c) depth k) ≡ true
unfolding valid_coverage coverage_for
valid-coverage k c code depth h = either (eqb (coverage_for c) not_reported) (and_i (a-coverage (leb c 25) (leb c 50) (leb c 75)) h)

-- ---- code

-- an entry asks for a depth over a figure only of kinds whose depths are reported from there on
abbrev asks_reported : Condition → ℕ → Bool
asks_reported Always k = true
asks_reported NotSlippery k = true
asks_reported Slippery k = true
asks_reported (DepthTo mm) k = true
asks_reported (DepthOver mm) k = is_reported k (suc mm)
asks_reported (TemperatureTo tenths) k = true
asks_reported (TemperatureOver tenths) k = true

unfoldable is_sound : Entry → Bool
is_sound e = all (asks_reported (condition e)) (named (kinds e)) and is_code (code e)

all_sound : all is_sound table1 ≡ true
unfolding ◌and◌ is_sound is_deep least_depth is_reported table1
all_sound = refl

-- a condition that held of what was observed can hold of what is reported
still : (c : Condition) (k : ℕ) (o : Observation) → asks_reported c k ≡ true → holds c o ≡ true → can_hold c (reported_depth k o.depth) ≡ true
unfolding holds can_hold
still Always k o s h = refl
still NotSlippery k o s h = refl
still Slippery k o s h = refl
still (DepthTo mm) k o s h = to-stays k o.depth mm h
still (DepthOver mm) k o s h = over-stays k o.depth mm s h
still (TemperatureTo tenths) k o s h = refl
still (TemperatureOver tenths) k o s h = refl

-- the entry that gave the code allows it
allowed-there : (e : Entry) (k coverage : ℕ) (o : Observation) → is_sound e ≡ true → is_for e k o ≡ true
    → allows e (third (code e) coverage (reported_depth k o.depth) k) ≡ true
unfolding is_sound is_named is_for allows
allowed-there e k coverage o s f =
    let sound = all-at (asks_reported (condition e)) (named (kinds e)) k (and-1 _ _ s) (and-1 _ _ f) in
    and_i (and-1 _ _ f) (and_i (eq-eqb (code e) (code e) refl) (still (condition e) k o sound (and-2 _ _ f)))

module _ (k : ℕ) (o : Observation) where
  -- the code that some entries give
  abbrev given : List Entry → ℕ
  given es = first_fitting (λ e. is_for e k o) code 0 es

  -- the third that is reported with a code, and whether some entries allow it
  abbrev reported : ℕ → ℕ → Third
  reported coverage c = third c coverage (reported_depth k o.depth) k

  abbrev allowed_in : List Entry → Third → Bool
  allowed_in es t = first_fitting (λ e. allows e t) (λ _. true) false es

  given-allowed : (coverage : ℕ) (es : List Entry) → all is_sound es ≡ true → how_many es k o ≡ 1 → allowed_in es (reported coverage (given es)) ≡ true
  unfolding how_many
  given-allowed coverage [] s one = absurd (omega arith)
  given-allowed coverage (e ∷ es) s one = go (is_for e k o) refl one (given-allowed coverage es (and-2 _ _ s))
    where
      now : Bool → Third
      now t = reported coverage (cond t (code e) (given es))

      go : (t : Bool) → is_for e k o ≡ t → counted t (how_many es k o) ≡ 1 → (how_many es k o ≡ 1 → allowed_in es (now false) ≡ true)
          → cond (allows e (now t)) true (allowed_in es (now t)) ≡ true
      go true f one later = rw (allowed-there e k coverage o (and-1 _ _ s) f)
      go false f one later = either (allows e (now false)) (later one)

  given-code : (es : List Entry) → all is_sound es ≡ true → is_code (given es) ≡ true
  unfolding is_sound
  given-code [] s = refl
  given-code (e ∷ es) s = go (is_for e k o) (and-2 _ _ (and-1 _ _ s)) (given-code es (and-2 _ _ s))
    where
      go : (t : Bool) → is_code (code e) ≡ true → is_code (given es) ≡ true → is_code (cond t (code e) (given es)) ≡ true
      go true here later = here
      go false here later = later

-- ---- the kind that is reported

record Reportable (o : Observation) (k : ℕ) : Type 0 where
  known : is_kind k ≡ true
  contaminant : is_contaminant k ≡ true
  deeper : is_thin k o ≡ false

not-both : (a b : Bool) → (a and b) ≡ false → b ≡ true → a ≡ false
unfolding ◌and◌
not-both true b h q = sym q ∙ h
not-both false b h q = refl

not_first : (t b : Bool) → cond t true b ≡ false → t ≡ false
not_first true b h = h
not_first false b h = refl

-- a covered surface that does not contradict itself is not DRY
not-dry : (o : Observation) → contradictory o ≡ false → ltb o.cover least_cover ≡ false → eqb o.kind dry ≡ false
unfolding contradictory covered_dry
not-dry o h c = not-both _ _ (not_first (covered_dry o) _ h) (lt-ltb 0 o.cover (omega (arith, ltb-false o.cover least_cover c)))

a-contaminant : (k : ℕ) → is_kind k ≡ true → eqb k dry ≡ false → is_contaminant k ≡ true
unfolding is_kind is_contaminant
a-contaminant k h n = and_i (and-1 _ _ h) (le-leb k wet_snow_on_ice (omega (arith, leb-true k dry (and-2 _ _ h), eqb-false k dry n)))

a-wet : (o : Observation) → Reportable o wet
unfolding ◌and◌ is_kind is_contaminant
a-wet o = record { known = refl; contaminant = refl; deeper = refl }

not-thin : (o : Observation) → is_thin_water o ≡ false → is_thin o.kind o ≡ false
unfolding is_thin_water
not-thin o e = e

reportable : (o : Observation) → is_kind o.kind ≡ true → eqb o.kind dry ≡ false → Reportable o (reported_kind o)
unfolding reported_kind
reportable o h n = go (is_thin_water o) refl
  where
    go : (t : Bool) → is_thin_water o ≡ t → Reportable o (cond t wet o.kind)
    go true e = a-wet o
    go false e = record { known = h; contaminant = a-contaminant o.kind h n; deeper = not-thin o e }

-- ---- the third that is reported

pub record Right (t : Third) : Type 0 where
  pub valid : valid_third t ≡ true
  pub agreeing : agrees t ≡ true

covered-right : (o : Observation) (k : ℕ) → Reportable o k → leb o.depth greatest_depth ≡ true → Right (covered k o)
unfolding is_kind valid_third agrees covered
covered-right o k r d =
    record {
      valid = and_i (given-code k o table1 all_sound)
          (and_i (and-2 _ _ r.known) (and_i (valid-coverage k o.cover _ _ r.contaminant) (valid-depth k o.depth _ _ d)));
      agreeing = either (eqb k not_reported) (given-allowed k o (coverage_for o.cover) table1 all_sound (one_line o k r.known r.deeper));
    }

uncovered-right : (t : Bool) → Right (third 6 not_reported not_reported (cond t dry not_reported))
unfolding ◌and◌ valid_coverage valid_depth valid_third table1 is_named can_hold allows agrees
uncovered-right true = record { valid = refl; agreeing = refl }
uncovered-right false = record { valid = refl; agreeing = refl }

assessed-right : (o : Observation) → in_range o ≡ true → contradictory o ≡ false → Right (assessed o)
unfolding in_range uncovered assessed
assessed-right o r n = go (ltb o.cover least_cover) refl
  where
    depth : leb o.depth greatest_depth ≡ true
    depth = and-1 _ _ (and-2 _ _ (and-2 _ _ r))

    go : (t : Bool) → ltb o.cover least_cover ≡ t → Right (cond t (uncovered o.kind) (covered (reported_kind o) o))
    go true e = uncovered-right (eqb o.kind dry)
    go false e = covered-right o (reported_kind o) (reportable o (and-1 _ _ r) (not-dry o n e)) depth

blank-right : Right blank_third
unfolding ◌and◌ valid_coverage valid_depth valid_third agrees
blank-right = record { valid = refl; agreeing = refl }

-- whatever was observed, the third that is reported is valid and agrees with Table 1
pub right : (o : Observation) → Right (assessing o).third
unfolding assessing
right o = go (in_range o) refl (contradictory o) refl
  where
    go : (t : Bool) → in_range o ≡ t → (u : Bool) → contradictory o ≡ u
        → Right (cond t (cond (not u) (assessed_as (assessed o)) (refused_assessing contradiction)) (refused_assessing out_of_range)).third
    go true r true n = blank-right
    go true r false n = assessed-right o r n
    go false r u n = blank-right
