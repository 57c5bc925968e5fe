-- The names that stand in the slots of an item's taxiways.
use Rattle.std.specs.Prelude.{ℕ, List, map}
use Rattle.text.specs.Piece.{Piece, space, verbatim, lay_all, ◌then◌}
use Rattle.text.specs.Arrays.{slots}
use Rattle.items.specs.Item.{taxiway_size, name_at_front}

-- the names in the first n slots of an array, a space before each
abbrev pub taxiway_names : ℕ → List ℕ → List Piece
taxiway_names n f = lay_all (λ w. space then verbatim w) (map name_at_front (slots taxiway_size n f))
