-- Treasures, and the objects that a cave knows.
use Rattle.std.specs.Prelude.{ℕ, Bool, ◌&&◌, nat_le, List, filter, is_some}
use Rattle.std.specs.List.{range_with_len}
use Rattle.cave_data.specs.CaveView.{CaveView, name_of}

-- the least number of a treasure
abbrev pub FIRST_TREASURE : ℕ
FIRST_TREASURE = 50

-- the greatest number of a treasure
abbrev pub LAST_TREASURE : ℕ
LAST_TREASURE = 79

-- how many treasures there may be
abbrev pub most_treasures : ℕ
most_treasures = 30

-- the treasures by their numbers
unfoldable pub treasures : List ℕ
treasures = range_with_len FIRST_TREASURE most_treasures

-- a cave knows the objects that have an inventory text
abbrev pub is_known : CaveView → ℕ → Bool
is_known cave x = is_some (name_of cave x)

unfoldable pub known_treasures : CaveView → List ℕ
known_treasures cave = filter (is_known cave) treasures

-- an object is a treasure, by its number
abbrev pub is_treasure : ℕ → Bool
is_treasure x = nat_le FIRST_TREASURE x && nat_le x LAST_TREASURE
