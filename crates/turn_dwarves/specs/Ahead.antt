-- The ways that a dwarf may go.
use Rattle.std.specs.Prelude.{ℕ, Bool, ◌==◌, ◌&&◌, not, nat_le, nat_lt, if◌then◌else◌, List, []}
use Rattle.std.specs.Prelude.{◌∷◌, Option, None, Some, take, length}
use Rattle.std.specs.List.{filter_map}
use Rattle.base_lines.specs.Numbers.{LAST_PLACE}
use Rattle.data_rows.specs.Rows.{Going}
use Rattle.data_rows.specs.declared.targets.Condition.{Condition}
use Rattle.data_rows.specs.declared.targets.Condition.TheVariants.{NotForDwarves}
use Rattle.data_rows.specs.declared.targets.Destination.{Destination}
use Rattle.data_rows.specs.declared.targets.Destination.TheVariants.{Place}
use Rattle.cave_data.specs.CaveView.{CaveView, ways_from}
use Rattle.world_objects.specs.Objects.{is_place}
use Rattle.cave_world.specs.Limits.{PIRATE}
use Rattle.cave_world.specs.Sight.{forced}
use Rattle.cave_world.specs.Travel.{row_condition, row_destination}
use Rattle.cave_world.specs.declared.dwarves.Dwarf.{Dwarf}
use Rattle.turn_scene.specs.Places.{has_condition_of}
use Rattle.turn_scene.specs.declared.conditions.PlaceCondition.TheVariants as condition
use Rattle.cave_world.specs.declared.tables.Table.TheVariants as table
use Rattle.turn_scene.specs.Rows.{Deed, Test, Act, Row, answer_row, otherwise_row, act_by_table}
use Rattle.turn_dwarves.specs.Band.{its_dwarf}

-- the first of the places where dwarves go
abbrev pub FIRST_HAUNT : ℕ
FIRST_HAUNT = 15

-- dwarves go to the places from the first on that have no forced motion; the pirate stays away from
-- some of them
unfoldable pub is_haunt : CaveView → Bool → ℕ → Bool
is_haunt cave is_pirate place =
    nat_le FIRST_HAUNT place && nat_le place LAST_PLACE && not (forced cave place)
    && not (is_pirate && has_condition_of cave place condition.NoPirate)

-- the place of a destination, if the dwarf goes there and neither is there nor was there before
abbrev pub haunt_ahead : CaveView → Bool → Dwarf → Destination → Option ℕ
haunt_ahead cave is_pirate dwarf (Place place) =
    if not (place == dwarf.last) && not (place == dwarf.place) && is_haunt cave is_pirate place
    then Some place else None
haunt_ahead cave is_pirate dwarf _ = None

-- the place to which a way leads a dwarf: none, if dwarves don't take it
abbrev pub place_ahead_if : CaveView → Bool → Dwarf → Condition → Destination → Option ℕ
place_ahead_if cave is_pirate dwarf NotForDwarves destination = None
place_ahead_if cave is_pirate dwarf _ destination = haunt_ahead cave is_pirate dwarf destination

unfoldable pub place_ahead : CaveView → Bool → Dwarf → Going → Option ℕ
place_ahead cave is_pirate dwarf row =
    place_ahead_if cave is_pirate dwarf (row_condition row) (row_destination row)

-- places in order, without those that are the same as the last one that was kept
abbrev pub without_repeats : Option ℕ → List ℕ → List ℕ
without_repeats last [] = []
without_repeats last (place ∷ places) =
    if is_place place last then without_repeats last places
    else place ∷ without_repeats (Some place) places

-- the places to which the rows of a dwarf's place lead it, in the order of the rows
unfoldable pub places_ahead : CaveView → Bool → Dwarf → List ℕ
places_ahead cave is_pirate dwarf =
    let found = filter_map (place_ahead cave is_pirate dwarf) (ways_from cave dwarf.place) in
    without_repeats None found

-- the places ahead of the dwarf with the number
abbrev pub ahead : Deed ℕ → List ℕ
ahead d = places_ahead d.cave (d.about == PIRATE) (its_dwarf d)

-- n places are ahead of the dwarf, or more than n
abbrev pub ways_ahead : ℕ → Test ℕ
ways_ahead n d = length (ahead d) == n

abbrev pub more_ways_ahead : ℕ → Test ℕ
more_ways_ahead n d = nat_lt n (length (ahead d))

-- the first of the places ahead
abbrev pub first_ahead : ℕ → Deed ℕ → List ℕ
first_ahead n d = take n (ahead d)

-- only the place where the dwarf was before
abbrev pub way_back : Deed ℕ → List ℕ
way_back d = (its_dwarf d).last ∷ []

-- the most places among which a dwarf chooses
abbrev pub MAX_CANDIDATES : ℕ
MAX_CANDIDATES = 19

-- the ways of a dwarf, which goes back to where it was before if there is no other way
abbrev pub dwarf_way_rows : List (Row ℕ (List ℕ))
dwarf_way_rows =
    answer_row (ways_ahead 0 ∷ []) way_back
    ∷ answer_row (more_ways_ahead MAX_CANDIDATES ∷ []) (first_ahead MAX_CANDIDATES) ∷ []

unfoldable pub ways_of_dwarf : Deed ℕ → Act (List ℕ)
ways_of_dwarf d = act_by_table table.DwarfWays dwarf_way_rows
    (otherwise_row [] ahead) d
