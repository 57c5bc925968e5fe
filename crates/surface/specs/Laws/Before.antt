-- Before request 4 the table had twenty lines of one kind each and its figures in the conditions. The entries give the code and allow the codes
-- that those lines did, whatever was observed and whatever a third holds.
use Rattle.std.specs.Prelude.{ℕ, ◌≡◌, refl, List, [], ◌∷◌, cond, Bool, true, false, not, eqb, leb, ℤ}
use Rattle.std.specs.Int.Signed.{le_z}
use Rattle.text.specs.Choice.{◌and◌, first_fitting}
use Rattle.surface.specs.declared.Third.{Third}
use Rattle.surface.specs.declared.Observation.{Observation}
use Rattle.surface.specs.declared.Entry.{Entry}
use Rattle.surface.specs.declared.Kinds.TheVariants.{One, Either}
use Rattle.surface.specs.declared.Condition.{Condition}
use Rattle.surface.specs.declared.Condition.TheVariants.{Always, NotSlippery, Slippery, DepthTo, DepthOver, TemperatureTo, TemperatureOver}
use Rattle.surface.specs.Descriptions.{compacted_snow, dry_snow, dry_snow_on_compacted_snow, dry_snow_on_ice, frost, ice, slush, standing_water}
use Rattle.surface.specs.Descriptions.{water_on_compacted_snow, wet, wet_ice, wet_snow, wet_snow_on_compacted_snow, wet_snow_on_ice, dry}
use Rattle.surface.specs.Table1.{table1, entry, code, minus, minus15_degrees, is_named, holds, is_for, code_for, can_hold, allows, is_allowed}
use Rattle.surface.specs.Laws.Figures.{over-is, milder-is}

-- ---- what stood there

pub data Said : Type 0 where
  always : Said
  not_slippery : Said
  slippery : Said
  shallow : Said
  deeper : Said
  cold : Said
  milder : Said

pub record Line : Type 0 where
  pub its-code : ℕ
  pub its-kind : ℕ
  pub its-condition : Said

abbrev pub line : ℕ → ℕ → Said → Line
line c k q = record { its-code = c; its-kind = k; its-condition = q }

abbrev pub twenty : List Line
twenty =
    line 6 dry always
    ∷ line 5 frost always
    ∷ line 5 wet not_slippery
    ∷ line 5 slush shallow
    ∷ line 5 dry_snow shallow
    ∷ line 5 wet_snow shallow
    ∷ line 4 compacted_snow cold
    ∷ line 3 wet slippery
    ∷ line 3 dry_snow_on_compacted_snow always
    ∷ line 3 wet_snow_on_compacted_snow always
    ∷ line 3 dry_snow deeper
    ∷ line 3 wet_snow deeper
    ∷ line 3 compacted_snow milder
    ∷ line 2 standing_water deeper
    ∷ line 2 slush deeper
    ∷ line 1 ice always
    ∷ line 0 wet_ice always
    ∷ line 0 water_on_compacted_snow always
    ∷ line 0 dry_snow_on_ice always
    ∷ line 0 wet_snow_on_ice always
    ∷ []

abbrev pub was_cold : ℤ → Bool
was_cold temperature = le_z temperature (minus 150)

abbrev pub held : Said → Observation → Bool
held always o = true
held not_slippery o = not o.slippery
held slippery o = o.slippery
held shallow o = leb o.depth 3
held deeper o = not (leb o.depth 3)
held cold o = was_cold o.temperature
held milder o = not (was_cold o.temperature)

abbrev pub could_hold : Said → ℕ → Bool
could_hold always depth = true
could_hold not_slippery depth = true
could_hold slippery depth = true
could_hold shallow depth = leb depth 3
could_hold deeper depth = not (leb depth 3)
could_hold cold depth = true
could_hold milder depth = true

abbrev pub code_of : ℕ → Observation → List Line → ℕ
code_of k o [] = 0
code_of k o (l ∷ ls) = cond (eqb l.its-kind k and held l.its-condition o) l.its-code (code_of k o ls)

abbrev pub allowed_by : Third → List Line → Bool
allowed_by t [] = false
allowed_by t (l ∷ ls) =
    cond (eqb l.its-kind t.description and eqb l.its-code t.code and could_hold l.its-condition t.depth) true (allowed_by t ls)

-- ---- that the entries say the same

data Says : Condition → Said → Type 0 where
  says-always : Says Always always
  says-not-slippery : Says NotSlippery not_slippery
  says-slippery : Says Slippery slippery
  says-shallow : Says (DepthTo 3) shallow
  says-deeper : Says (DepthOver 3) deeper
  says-cold : Says (TemperatureTo minus15_degrees) cold
  says-milder : Says (TemperatureOver minus15_degrees) milder

-- entries one below the other, and the lines that stood for them
data Stand : List Entry → List Line → Type 0 where
  end : Stand [] []
  one : {c k : ℕ} {q : Condition} {s : Said} {es : List Entry} {ls : List Line} → Says q s → Stand es ls → Stand (entry c (One k) q ∷ es) (line c k s ∷ ls)
  two : {c k j : ℕ} {q : Condition} {s : Said} {es : List Entry} {ls : List Line} → Says q s → Stand es ls
      → Stand (entry c (Either k j) q ∷ es) (line c k s ∷ line c j s ∷ ls)

stand : Stand table1 twenty
unfolding table1
stand =
    one says-always
    (one says-always
    (one says-not-slippery
    (one says-shallow
    (one says-shallow
    (one says-shallow
    (one says-cold
    (one says-slippery
    (one says-always
    (one says-always
    (one says-deeper
    (one says-deeper
    (one says-milder
    (one says-deeper
    (one says-deeper
    (one says-always
    (one says-always
    (one says-always
    (two says-always end))))))))))))))))))

same-held : {q : Condition} {s : Said} → Says q s → (o : Observation) → holds q o ≡ held s o
unfolding holds
same-held says-always o = refl
same-held says-not-slippery o = refl
same-held says-slippery o = refl
same-held says-shallow o = refl
same-held says-deeper o = over-is 3 o.depth
same-held says-cold o = refl
same-held says-milder o = milder-is minus15_degrees o.temperature

same-hold : {q : Condition} {s : Said} → Says q s → (d : ℕ) → can_hold q d ≡ could_hold s d
unfolding can_hold
same-hold says-always d = refl
same-hold says-not-slippery d = refl
same-hold says-slippery d = refl
same-hold says-shallow d = refl
same-hold says-deeper d = over-is 3 d
same-hold says-cold d = refl
same-hold says-milder d = refl

-- one kind is a line, and two are two lines one below the other
one-kind : {A : Type 0} (here h : Bool) (a b : A) → cond (cond here true false and h) a b ≡ cond (here and h) a b
unfolding ◌and◌
one-kind true h a b = refl
one-kind false h a b = refl

two-kinds : {A : Type 0} (here there h : Bool) (a b : A)
    → cond (cond here true (cond there true false) and h) a b ≡ cond (here and h) a (cond (there and h) a b)
unfolding ◌and◌
two-kinds true true true a b = refl
two-kinds true true false a b = refl
two-kinds true false true a b = refl
two-kinds true false false a b = refl
two-kinds false there h a b = one-kind there h a b

code_alike : (kind : ℕ) (o : Observation) {es : List Entry} {ls : List Line} → Stand es ls → first_fitting (λ e. is_for e kind o) code 0 es ≡ code_of kind o ls
unfolding is_named is_for
code_alike kind o end = refl
code_alike kind o (one {c} {k} says rest) = rw (same-held says o, one-kind (eqb k kind) _ c _, code_alike kind o rest)
code_alike kind o (two {c} {k} {j} says rest) = rw (same-held says o, two-kinds (eqb k kind) (eqb j kind) _ c _, code_alike kind o rest)

allowed-alike : (t : Third) {es : List Entry} {ls : List Line} → Stand es ls → first_fitting (λ e. allows e t) (λ _. true) false es ≡ allowed_by t ls
unfolding is_named allows
allowed-alike t end = refl
allowed-alike t (one {c} {k} says rest) = rw (same-hold says t.depth, one-kind (eqb k t.description) _ true _, allowed-alike t rest)
allowed-alike t (two {c} {k} {j} says rest) =
    rw (same-hold says t.depth, two-kinds (eqb k t.description) (eqb j t.description) _ true _, allowed-alike t rest)

pub same_code : (kind : ℕ) (o : Observation) → code_for kind o ≡ code_of kind o twenty
same_code kind o = code_alike kind o stand

pub same_codes : (t : Third) → is_allowed t ≡ allowed_by t twenty
same_codes t = allowed-alike t stand
