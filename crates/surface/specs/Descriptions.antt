-- The fifteen descriptions of document 01, numbered in its order, and NR; Table 3 of document 000, of those that have a depth.
use Rattle.std.specs.Prelude.{ℕ, List, [], ◌∷◌, map, Option, Bool, eqb, leb}
use Rattle.std.specs.List.{find}
use Rattle.text.specs.Choice.{◌and◌, member}
use Rattle.text.specs.Names.{name_at}
use Rattle.surface.specs.declared.Contaminant.{Contaminant}

-- NR: nothing is reported
abbrev pub not_reported : ℕ
not_reported = 0

-- the fifteen, in the order of the document
abbrev pub compacted_snow : ℕ
compacted_snow = 1

abbrev pub dry_snow : ℕ
dry_snow = 2

abbrev pub dry_snow_on_compacted_snow : ℕ
dry_snow_on_compacted_snow = 3

abbrev pub dry_snow_on_ice : ℕ
dry_snow_on_ice = 4

abbrev pub frost : ℕ
frost = 5

abbrev pub ice : ℕ
ice = 6

abbrev pub slush : ℕ
slush = 7

abbrev pub standing_water : ℕ
standing_water = 8

abbrev pub water_on_compacted_snow : ℕ
water_on_compacted_snow = 9

abbrev pub wet : ℕ
wet = 10

abbrev pub wet_ice : ℕ
wet_ice = 11

abbrev pub wet_snow : ℕ
wet_snow = 12

abbrev pub wet_snow_on_compacted_snow : ℕ
wet_snow_on_compacted_snow = 13

abbrev pub wet_snow_on_ice : ℕ
wet_snow_on_ice = 14

abbrev pub dry : ℕ
dry = 15

-- "NR or one of fifteen, which are fixed byte strings": the text of each, at its number
abbrev pub description_name : ℕ → List ℕ
description_name =
    name_at
    ("NR"
    ∷ "COMPACTED SNOW"
    ∷ "DRY SNOW"
    ∷ "DRY SNOW ON TOP OF COMPACTED SNOW"
    ∷ "DRY SNOW ON TOP OF ICE"
    ∷ "FROST"
    ∷ "ICE"
    ∷ "SLUSH"
    ∷ "STANDING WATER"
    ∷ "WATER ON TOP OF COMPACTED SNOW"
    ∷ "WET"
    ∷ "WET ICE"
    ∷ "WET SNOW"
    ∷ "WET SNOW ON TOP OF COMPACTED SNOW"
    ∷ "WET SNOW ON TOP OF ICE"
    ∷ "DRY"
    ∷ [])

-- NR or one of the fifteen
abbrev pub is_description : ℕ → Bool
is_description d = leb d dry

-- "under a contaminant, so not under DRY or NR": the fourteen between those two
unfoldable pub is_contaminant : ℕ → Bool
is_contaminant d = leb compacted_snow d and leb d wet_snow_on_ice

-- a line of Table 3: a contaminant, the least depth of it that is reported, and the difference that is a significant change, in millimetres
abbrev pub contaminant : ℕ → ℕ → ℕ → Contaminant
contaminant kind least significant = record { 0 = kind; 1 = least; 2 = significant }

-- Table 3, in its order
abbrev pub table3 : List Contaminant
table3 =
    contaminant standing_water 4 3  -- 积水 04 03
    ∷ contaminant slush 3 3  -- 雪浆 03 03
    ∷ contaminant wet_snow 3 5  -- 湿雪 03 05
    ∷ contaminant dry_snow 3 20  -- 干雪 03 20
    ∷ []

-- the line of a description, if it has one
abbrev pub line_of : ℕ → Option Contaminant
line_of d = find (λ l. eqb l.0 d) table3

-- the deep ones, which have a line: "STANDING WATER (from 04), SLUSH, WET SNOW and DRY SNOW (each from 03)"
unfoldable pub is_deep : ℕ → Bool
is_deep d = member (map (λ l. l.0) table3) d
