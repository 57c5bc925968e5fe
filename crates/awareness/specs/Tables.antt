-- Taxiways as an item holds them, and the answers, evaluated.
use Rattle.std.specs.Prelude.{◌≡◌, refl, [], ◌∷◌, ◌++◌, None, Some, replicate}
use Rattle.text.specs.Arrays.{flat}
use Rattle.text.specs.Piece.{bytes}
use Rattle.text.specs.Read.{misfit, got}
use Rattle.items.specs.Item.{letter_j, letter_p}
use Rattle.items.specs.ReadItem.{bare_item}
use Rattle.awareness.specs.Code.Held.{items_answer, ItemsLeft}
use Rattle.awareness.specs.Code.Named.{in_slots}

-- three bytes for each, zeros behind a shorter one and behind the last
pub held : in_slots (bytes "A" ∷ bytes "B12" ∷ []) ≡ (2, bytes "A" ++ (0 ∷ 0 ∷ (bytes "B12" ++ replicate 18 0)))
unfolding flat
held = refl

-- what is answered: nothing for a misfit, and zeros stand past the items
pub record Answers : Type 0 where
  pub no_items : items_answer misfit ≡ None
  pub items : items_answer (got (bare_item letter_j ∷ bare_item letter_p ∷ []) [])
      ≡ Some (record { count = 2; items = bare_item letter_j ∷ bare_item letter_p ∷ replicate 30 (bare_item 0) })
  pub left : ItemsLeft (got (bare_item letter_j ∷ []) []) (record { count = 1; items = bare_item letter_j ∷ replicate 31 (bare_item 0) }) (Some tt)
  pub none_left : ItemsLeft misfit (record { count = 0; items = replicate 32 (bare_item 0) }) None

pub answers : Answers
answers = record { no_items = refl; items = refl; left = (refl, tt); none_left = (refl, refl) }
