-- The narrow passage.
use Rattle.std.specs.Prelude.{ℕ, ◌==◌, List, [], ◌∷◌}
use Rattle.data_rows.specs.declared.place_role.PlaceRole.TheVariants as place
use Rattle.data_rows.specs.declared.role.Role.TheVariants as role
use Rattle.cave_words.specs.declared.named.Named.TheVariants as name
use Rattle.turn_scene.specs.Places.{place_named}
use Rattle.cave_world.specs.declared.tables.Table.TheVariants as table
use Rattle.turn_scene.specs.Rows.{Deed, Act, Test, Row, row_then, first_fitting_or, nothing_but}
use Rattle.turn_scene.specs.Rows.{otherwise_then, noted}
use Rattle.turn_scene.specs.Tests.{the, no, either, both, in_hands, held, here}
use Rattle.turn_scene.specs.Effects.{say}
use Rattle.turn_moves.specs.Ways.{Passage, other_end, passable, end_of}

unfoldable pub squeeze : Passage (Unit {0})
squeeze d =
    other_end (here d) (place_named d.cave place.Alcove) (place_named d.cave place.Plover)

-- this many objects are in the hands
abbrev pub has_load : ℕ → Test (Unit {0})
has_load n d = held d == n

-- the hands are empty, or have only the emerald
abbrev pub slim : Test (Unit {0})
slim = either (has_load 0) (both (has_load 1) (in_hands (the name.Emerald)))

unfoldable pub squeeze_rows : List (Row (Unit {0}) ℕ)
squeeze_rows =
    row_then (no (passable squeeze) ∷ []) (say role.NoWay ∷ []) here
    ∷ row_then (slim ∷ []) [] (end_of squeeze)
    ∷ otherwise_then (say role.TooTight ∷ []) here

-- where the narrow passage leads
unfoldable pub squeeze_through : Deed (Unit {0}) → Act ℕ
squeeze_through d = first_fitting_or (noted table.Squeeze squeeze_rows) (nothing_but here) d
