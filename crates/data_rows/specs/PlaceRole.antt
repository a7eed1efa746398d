-- The places that rules name by what they are for.
use Rattle.std.specs.Prelude.{ℕ, List, [], ◌∷◌, codes, map, slice_index_or}
use denote.Enum.Declared.{tag_of}
use Rattle.data_rows.specs.contracts.place_role.PlaceRole.{the_type}
use Rattle.data_rows.specs.declared.place_role.PlaceRole.{PlaceRole}

-- each with the name that bindings use, in the order of their numbers
abbrev pub PLACE_ROWS : List (PlaceRole × List ℕ)
PLACE_ROWS =
    (PlaceRole.Start, codes "start") ∷ (PlaceRole.Building, codes "building")
    ∷ (PlaceRole.Outside, codes "outside") ∷ (PlaceRole.Deep, codes "deep")
    ∷ (PlaceRole.Alcove, codes "alcove") ∷ (PlaceRole.Plover, codes "plover") ∷ (PlaceRole.Y2, codes "y2")
    ∷ (PlaceRole.Chest, codes "chest") ∷ (PlaceRole.Message, codes "message")
    ∷ (PlaceRole.Dwarfalt, codes "dwarfalt") ∷ (PlaceRole.Dwarf1, codes "dwarf1")
    ∷ (PlaceRole.Dwarf2, codes "dwarf2") ∷ (PlaceRole.Dwarf3, codes "dwarf3")
    ∷ (PlaceRole.Dwarf4, codes "dwarf4") ∷ (PlaceRole.Dwarf5, codes "dwarf5")
    ∷ (PlaceRole.Culdesac, codes "culdesac") ∷ (PlaceRole.Witt, codes "witt") ∷ (PlaceRole.Ne, codes "ne")
    ∷ (PlaceRole.Sw, codes "sw") ∷ []

abbrev pub each_place_role : List PlaceRole
each_place_role = map (λ row. row.0) PLACE_ROWS

abbrev pub PLACE_NAMES : List (List ℕ)
PLACE_NAMES = map (λ row. row.1) PLACE_ROWS

-- its place among all, from 0, which is that of its variant
abbrev pub place_number : PlaceRole → ℕ
place_number p = tag_of the_type p

abbrev pub place_name : PlaceRole → List ℕ
place_name p = slice_index_or PLACE_NAMES (place_number p) []
