-- Tables that the checker evaluates: the text and the reading of each group, with the neighbours of each bound.
use Rattle.std.specs.Prelude.{ℕ, ◌≡◌, refl, List, [], ◌∷◌, ◌++◌, map, Some}
use Rattle.std.proofs.Common.{lit≤}
use Prim.Native.String.{String}
use Rattle.text.specs.Piece.{bytes, spell, canonical}
use Rattle.text.specs.Read.{Got, misfit, got, skip, read_text}
use Rattle.text.specs.Names.{read_name}
use Rattle.text.specs.Numbers.{digits, read_digits}
use Rattle.surface.specs.Descriptions.{not_reported, compacted_snow, dry_snow, dry_snow_on_compacted_snow, dry_snow_on_ice, frost, ice, slush, standing_water}
use Rattle.surface.specs.Descriptions.{water_on_compacted_snow, wet, wet_ice, wet_snow, wet_snow_on_compacted_snow, wet_snow_on_ice, dry}
use Rattle.thirds.specs.Code.Begin.{beginning}
use Rattle.thirds.specs.Code.Held.{HeldThree, three, joint_text}
use Rattle.thirds.specs.Groups.{description_order, measure_pieces, read_measure, read_coverage, read_description}
use Rattle.thirds.specs.Groups.{third_pieces, read_third, highest, Three, group_pieces, read_group}
use Rattle.thirds.specs.declared.Group.{Group}
use Rattle.thirds.specs.declared.Group.TheVariants.{Codes, Coverages, Depths, Descriptions}

abbrev text : Group → ℕ → List ℕ
text g x = canonical (third_pieces g x)

-- what a third of a group is read as, and what is left of its text
abbrev third : Group → String → Got ℕ
third g s = read_third g (bytes s)

abbrev group : Group → String → Got Three
group g s = read_group g (bytes s)

abbrev all : ℕ → ℕ → ℕ → Got Three
all a b c = got (a, b, c) []

pub record Texts : Type 0 where
  code : map (text Codes) (0 ∷ 6 ∷ 9 ∷ []) ≡ bytes "0" ∷ bytes "6" ∷ bytes "9" ∷ []
  coverage : map (text Coverages) (not_reported ∷ 25 ∷ 50 ∷ 75 ∷ 100 ∷ []) ≡ bytes "NR" ∷ bytes "25" ∷ bytes "50" ∷ bytes "75" ∷ bytes "100" ∷ []
  depth : map (text Depths) (not_reported ∷ 3 ∷ 99 ∷ 100 ∷ 999 ∷ []) ≡ bytes "NR" ∷ bytes "03" ∷ bytes "99" ∷ bytes "100" ∷ bytes "999" ∷ []
  description :
      map (text Descriptions) (not_reported ∷ compacted_snow ∷ dry_snow ∷ dry_snow_on_compacted_snow ∷ dry_snow_on_ice ∷ frost ∷ ice ∷ slush ∷ standing_water
      ∷ water_on_compacted_snow ∷ wet ∷ wet_ice ∷ wet_snow ∷ wet_snow_on_compacted_snow ∷ wet_snow_on_ice ∷ dry ∷ 16 ∷ [])
      ≡ bytes "NR"
      ∷ bytes "COMPACTED SNOW"
      ∷ bytes "DRY SNOW"
      ∷ bytes "DRY SNOW ON TOP OF COMPACTED SNOW"
      ∷ bytes "DRY SNOW ON TOP OF ICE"
      ∷ bytes "FROST"
      ∷ bytes "ICE"
      ∷ bytes "SLUSH"
      ∷ bytes "STANDING WATER"
      ∷ bytes "WATER ON TOP OF COMPACTED SNOW"
      ∷ bytes "WET"
      ∷ bytes "WET ICE"
      ∷ bytes "WET SNOW"
      ∷ bytes "WET SNOW ON TOP OF COMPACTED SNOW"
      ∷ bytes "WET SNOW ON TOP OF ICE"
      ∷ bytes "DRY"
      ∷ []
      ∷ []
  joined : canonical (group_pieces Depths (3, not_reported, 100)) ≡ bytes " 03/NR/100"
  begun : map beginning (bytes "NCDFISWX")
      ≡ (not_reported ∷ [])
      ∷ (compacted_snow ∷ [])
      ∷ (dry_snow_on_compacted_snow ∷ dry_snow_on_ice ∷ dry_snow ∷ dry ∷ [])
      ∷ (frost ∷ [])
      ∷ (ice ∷ [])
      ∷ (slush ∷ standing_water ∷ [])
      ∷ (water_on_compacted_snow ∷ wet_snow_on_compacted_snow ∷ wet_snow_on_ice ∷ wet_snow ∷ wet_ice ∷ wet ∷ [])
      ∷ []
      ∷ []
  joints : map joint_text (0 ∷ 1 ∷ 2 ∷ []) ≡ bytes " " ∷ bytes "/" ∷ bytes "/" ∷ []

pub texts : Texts
unfolding spell digits measure_pieces third_pieces beginning
texts = record { code = refl; coverage = refl; depth = refl; description = refl; joined = refl; begun = refl; joints = refl }

pub record Readings : Type 0 where
  -- each description in its own text, whatever else begins as it does
  description : map (λ d. read_third Descriptions (text Descriptions d ++ bytes "/")) description_order ≡ map (λ d. got d (bytes "/")) description_order
  spaced : third Descriptions "DRY   SNOW  ON TOP OF ICE" ≡ got dry_snow_on_ice []
  none : map (third Descriptions) ("" ∷ "SNOW" ∷ "DR" ∷ "WATER" ∷ "dry" ∷ []) ≡ misfit ∷ misfit ∷ misfit ∷ misfit ∷ misfit ∷ []
  code : map (third Codes) ("0" ∷ "9" ∷ "12" ∷ "NR" ∷ "" ∷ []) ≡ got 0 [] ∷ got 9 [] ∷ got 1 (bytes "2") ∷ misfit ∷ misfit ∷ []
  coverage : map (third Coverages) ("NR" ∷ "25" ∷ "100" ∷ "101" ∷ "999" ∷ "5" ∷ "00" ∷ [])
      ≡ got not_reported [] ∷ got 25 [] ∷ got 100 [] ∷ misfit ∷ misfit ∷ misfit ∷ misfit ∷ []
  depth : map (third Depths) ("NR" ∷ "03" ∷ "99" ∷ "100" ∷ "999" ∷ "3" ∷ "00" ∷ "099" ∷ "1000" ∷ [])
      ≡ got not_reported [] ∷ got 3 [] ∷ got 99 [] ∷ got 100 [] ∷ got 999 [] ∷ misfit ∷ misfit ∷ got 9 (bytes "9") ∷ got 100 (bytes "0") ∷ []
  groups : (group Codes " 1/2/3" ≡ all 1 2 3) × (group Coverages "  25/NR/100" ≡ all 25 not_reported 100)
      × (group Depths " 03/NR/100" ≡ all 3 not_reported 100) × (group Descriptions " DRY/NR/WET ICE" ≡ all dry not_reported wet_ice)
  parted : map (group Codes) ("1/2/3" ∷ " 1 /2/3" ∷ " 1/ 2/3" ∷ " 1/2" ∷ " 1-2-3" ∷ []) ≡ misfit ∷ misfit ∷ misfit ∷ misfit ∷ misfit ∷ []
  -- what is answered: the numbers in an array, and the place behind them
  told : HeldThree (bytes " 1/2/3X") (group Codes " 1/2/3X") (Some (record { numbers = 1 ∷ 2 ∷ 3 ∷ []; next = 6 }))
  array : three (1 ∷ 2 ∷ 3 ∷ []) ≡ (1, 2, 3)
  shown : map highest (Codes ∷ Coverages ∷ Depths ∷ Descriptions ∷ []) ≡ 9 ∷ 100 ∷ 999 ∷ dry ∷ []

pub readings : Readings
unfolding spell skip read_text read_name read_digits digits measure_pieces read_measure read_coverage read_description third_pieces read_third highest read_group
readings = record {
  description = refl;
  spaced = refl;
  none = refl;
  code = refl;
  coverage = refl;
  depth = refl;
  groups = (refl, refl, refl, refl);
  parted = refl;
  told = record { told = record { within = lit≤ tt; says = refl }; no_more = refl };
  array = refl;
  shown = refl;
}
