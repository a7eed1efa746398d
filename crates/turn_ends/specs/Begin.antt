-- The state with which a game begins.
use Rattle.std.specs.Prelude.{ℕ, ℤ, pos, ◌==◌, Bool, true, false, not, if◌then◌else◌, List}
use Rattle.std.specs.Prelude.{unwrap_or, [], ◌∷◌, ◌++◌, length, map, filter, flat_map, Option}
use Rattle.std.specs.List.{list_any, range_with_len}
use Rattle.cave_data.specs.CaveView.{CaveView}
use Rattle.data_rows.specs.declared.place_role.PlaceRole.{PlaceRole}
use Rattle.world_objects.specs.Objects.{Layout, spot_at, place_of_spot, place_of_anchor, is_place}
use Rattle.world_objects.specs.Lists.{with_half}
use Rattle.cave_world.specs.State.{starting_state}
use Rattle.cave_world.specs.declared.dwarves.Dwarf.{Dwarf}
use Rattle.world_objects.specs.declared.lists.PlacedHalf.{PlacedHalf}
use Rattle.world_objects.specs.declared.object.Half.{Half}
use Rattle.world_objects.specs.declared.object.Half.TheVariants.{First, Second}
use Rattle.world_objects.specs.declared.spot.Anchor.{Anchor}
use Rattle.cave_world.specs.declared.state.State.{State}
use Rattle.turn_scene.specs.Homes.{home, hold_of}
use Rattle.turn_scene.specs.Places.{place_named, start_place}
use Rattle.turn_scene.specs.Treasures.{known_treasures}
use Rattle.turn_scene.specs.Props.{UNSEEN}
use Rattle.base_lines.specs.Numbers.{LAST_OBJECT}

-- the objects by their numbers
unfoldable pub all_objects : List ℕ
all_objects = range_with_len 1 LAST_OBJECT

-- a known treasure hasn't been seen yet
abbrev pub start_prop : CaveView → ℕ → ℤ
start_prop cave x = if list_any (λ t. x == t) (known_treasures cave) then UNSEEN else pos 0

-- an object belongs to those with two places, or to the others
abbrev pub is_placed_now : Bool → Anchor → Bool
is_placed_now twice Anchor.Loose = not twice
is_placed_now twice Anchor.Fixed = not twice
is_placed_now twice (Anchor.At place) = twice

unfoldable pub objects_due : CaveView → Bool → List ℕ
objects_due cave twice = filter (λ x. is_placed_now twice (hold_of cave x)) all_objects

-- in a list those with one place come before those with two, and among either lower numbers come
-- before higher ones
unfoldable pub start_order : CaveView → List ℕ
start_order cave = objects_due cave false ++ objects_due cave true

abbrev pub both_halves : ℕ → List Half
both_halves x = First x ∷ Second x ∷ []

-- all halves in the order of the lists, the latest first
abbrev pub start_halves : CaveView → List Half
start_halves cave = flat_map both_halves (start_order cave)

-- the place of a half, if it is anywhere
abbrev pub place_of_half : CaveView → Half → Option ℕ
place_of_half cave (First x) = place_of_spot (spot_at (home cave x))
place_of_half cave (Second x) = place_of_anchor (hold_of cave x)

-- halves in the lists of their places, each before those that come after it
abbrev pub lists_of_halves : CaveView → List Half → List PlacedHalf
lists_of_halves cave [] = []
lists_of_halves cave (half ∷ halves) = with_half half (place_of_half cave half)
    (lists_of_halves cave halves)

abbrev pub start_list : CaveView → ℕ → List Half
start_list cave place =
    filter (λ half. is_place place (place_of_half cave half)) (start_halves cave)

-- each object is where it belongs, with its anchor and its prop
unfoldable pub starting_objects : CaveView → Layout
starting_objects cave = record {
  first = map (λ x. spot_at (home cave x)) all_objects;
  second = map (hold_of cave) all_objects;
  props = map (start_prop cave) all_objects;
  lists = lists_of_halves cave (start_halves cave);
}

-- a dwarf at its place, or gone, if there is none
unfoldable pub dwarf_by_role : CaveView → PlaceRole → Dwarf
dwarf_by_role cave role = let at = unwrap_or (place_named cave role) 0 in
    record { place = at; last = at; has_seen = false }

unfoldable pub starting_dwarves : CaveView → List Dwarf
starting_dwarves cave =
    dwarf_by_role cave PlaceRole.Dwarf1 ∷ dwarf_by_role cave PlaceRole.Dwarf2
    ∷ dwarf_by_role cave PlaceRole.Dwarf3 ∷ dwarf_by_role cave PlaceRole.Dwarf4
    ∷ dwarf_by_role cave PlaceRole.Dwarf5 ∷ dwarf_by_role cave PlaceRole.Chest ∷ []

-- the state at the start: what isn't named here is as in a game in which nothing is placed yet
unfoldable pub begun_state : CaveView → ℕ → State
begun_state cave x =
    let s = starting_state (start_place cave) x in let tallies = s.tallies in
    let dwarves = s.dwarves in
    record s {
      objects = starting_objects cave;
      tallies = record tallies { unseen = length (known_treasures cave) };
      dwarves = record dwarves { each = starting_dwarves cave };
    }
