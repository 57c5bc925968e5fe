-- Table 1 of document 000, and the two uses of it: the code of an observation, and the codes that a third may have.
use Rattle.std.specs.Prelude.{ℕ, zero, suc, List, [], ◌∷◌, cond, Bool, true, false, not, eqb, leb, ltb, ℤ, pos, negsuc}
use Rattle.std.specs.Int.Signed.{le_z, lt_z}
use Rattle.text.specs.Choice.{◌and◌, member, first_fitting}
use Rattle.surface.specs.declared.Third.{Third}
use Rattle.surface.specs.declared.Observation.{Observation}
use Rattle.surface.specs.declared.Entry.{Entry}
use Rattle.surface.specs.declared.Condition.{Condition}
use Rattle.surface.specs.declared.Kinds.{Kinds}
use Rattle.surface.specs.declared.Kinds.TheVariants.{One, Either}
use Rattle.surface.specs.declared.Condition.TheVariants.{Always, NotSlippery, Slippery, DepthTo, DepthOver, TemperatureTo, TemperatureOver}
use Rattle.surface.specs.Descriptions.{not_reported, compacted_snow, dry_snow, dry_snow_on_compacted_snow, dry_snow_on_ice, frost, ice, slush, standing_water}
use Rattle.surface.specs.Descriptions.{water_on_compacted_snow, wet, wet_ice, wet_snow, wet_snow_on_compacted_snow, wet_snow_on_ice, dry}

-- the kinds that an entry names: one, or one "or" another
abbrev pub named : Kinds → List ℕ
named (One a) = a ∷ []
named (Either a b) = a ∷ b ∷ []

-- an entry: the code, the kinds of surface, and the condition under which they have the code
abbrev pub entry : ℕ → Kinds → Condition → Entry
entry c ks q = record { 0 = c; 1 = ks; 2 = q }

-- the code of an entry
abbrev pub code : Entry → ℕ
code e = e.0

-- its kinds
abbrev pub kinds : Entry → Kinds
kinds e = e.1

-- and the condition under which it holds
abbrev pub condition : Entry → Condition
condition e = e.2

-- the number n below zero
abbrev pub minus : ℕ → ℤ
minus zero = pos 0
minus (suc n) = negsuc n

-- in tenths of a degree
abbrev pub minus15_degrees : ℤ
minus15_degrees = minus 150

-- Table 1, in its order; depths in millimetres
unfoldable pub table1 : List Entry
table1 =
    entry 6 (One dry) Always  -- 干
    ∷ entry 5 (One frost) Always  -- 霜
    ∷ entry 5 (One wet) NotSlippery  -- 湿【跑道表面覆盖有任何明显的湿气或深度不超过 3 毫米（含）的水】
    ∷ entry 5 (One slush) (DepthTo 3)  -- 雪浆【深度不超过 3 毫米（含）】
    ∷ entry 5 (One dry_snow) (DepthTo 3)  -- 干雪【深度不超过 3 毫米（含）】
    ∷ entry 5 (One wet_snow) (DepthTo 3)  -- 湿雪【深度不超过 3 毫米（含）】
    ∷ entry 4 (One compacted_snow) (TemperatureTo minus15_degrees)  -- 压实的雪（外面气温-15 摄氏度或 5 华氏度及以下）
    ∷ entry 3 (One wet) Slippery  -- 湿（“湿滑”跑道）
    ∷ entry 3 (One dry_snow_on_compacted_snow) Always  -- 压实的雪面上有干雪（任何深度）
    ∷ entry 3 (One wet_snow_on_compacted_snow) Always  -- 压实的雪面上有湿雪（任何深度）
    ∷ entry 3 (One dry_snow) (DepthOver 3)  -- 干雪（深度超过 3 毫米）
    ∷ entry 3 (One wet_snow) (DepthOver 3)  -- 湿雪（深度超过 3 毫米）
    ∷ entry 3 (One compacted_snow) (TemperatureOver minus15_degrees)  -- 压实的雪（外面气温高于-15 摄氏度或 5 华氏度）
    ∷ entry 2 (One standing_water) (DepthOver 3)  -- 积水（深度超过 3 毫米）
    ∷ entry 2 (One slush) (DepthOver 3)  -- 雪浆（深度超过 3 毫米）
    ∷ entry 1 (One ice) Always  -- 冰
    ∷ entry 0 (One wet_ice) Always  -- 湿冰
    ∷ entry 0 (One water_on_compacted_snow) Always  -- 压实的雪面上有水
    ∷ entry 0 (Either dry_snow_on_ice wet_snow_on_ice) Always  -- 冰面上有干雪或湿雪
    ∷ []

-- the kind is one of those named
unfoldable pub is_named : Kinds → ℕ → Bool
is_named ks k = member (named ks) k

-- the condition holds of an observation; "不超过" and "及以下" take the figure in, "超过" and "高于" do not
unfoldable pub holds : Condition → Observation → Bool
holds Always o = true
holds NotSlippery o = not o.slippery
holds Slippery o = o.slippery
holds (DepthTo mm) o = leb o.depth mm
holds (DepthOver mm) o = ltb mm o.depth
holds (TemperatureTo tenths) o = le_z o.temperature tenths
holds (TemperatureOver tenths) o = lt_z tenths o.temperature

-- the entry is the one for a surface of this kind, so observed
unfoldable pub is_for : Entry → ℕ → Observation → Bool
is_for e k o = is_named (kinds e) k and holds (condition e) o

-- the code that Table 1 gives
abbrev pub code_for : ℕ → Observation → ℕ
code_for k o = first_fitting (λ e. is_for e k o) code 0 table1

-- the condition can hold of a surface whose reported depth is known, and nothing else; NR is 0, so that "an NR depth counts as shallow"
unfoldable pub can_hold : Condition → ℕ → Bool
can_hold Always depth = true
can_hold NotSlippery depth = true
can_hold Slippery depth = true
can_hold (DepthTo mm) depth = leb depth mm
can_hold (DepthOver mm) depth = ltb mm depth
can_hold (TemperatureTo tenths) depth = true
can_hold (TemperatureOver tenths) depth = true

-- the entry allows a third its code
unfoldable pub allows : Entry → Third → Bool
allows e t = is_named (kinds e) t.description and eqb (code e) t.code and can_hold (condition e) t.depth

-- some entry of Table 1 allows it
abbrev pub is_allowed : Third → Bool
is_allowed t = first_fitting (λ e. allows e t) (λ _. true) false table1

-- the agreement check of a third: "NR allows every code", else Table 1 has to allow it
unfoldable pub agrees : Third → Bool
agrees t = cond (eqb t.description not_reported) true (is_allowed t)
