-- The second clock, and the repository into which the cave is closed as it runs out.
use Rattle.std.specs.Prelude.{ℕ, ℤ, pos, ◌-ℤ◌, int_le, true, List, [], ◌∷◌}
use Rattle.std.specs.Ordering.{int_eq}
use Rattle.data_rows.specs.declared.place_role.PlaceRole.{PlaceRole}
use Rattle.data_rows.specs.declared.role.Role.TheVariants as role
use Rattle.cave_words.specs.declared.named.Named.{Named}
use Rattle.world_objects.specs.Objects.{Layout, after_move_to, objects_in_hands, anchor_at}
use Rattle.cave_world.specs.declared.state.State.{State}
use Rattle.turn_scene.specs.Parts.{with_objects, with_closing}
use Rattle.turn_scene.specs.Props.{BIRD_CAGED, BOTTLE_EMPTY, GRATE_LOCKED, LAMP_OFF, PLANT_SMALL}
use Rattle.turn_scene.specs.Props.{SEEN, SNAKE_GONE, UNSEEN}
use Rattle.turn_scene.specs.Rows.{Test, Effect, after_all}
use Rattle.turn_scene.specs.Tests.{the, place_of}
use Rattle.turn_scene.specs.Effects.{in_scene, change, move, put_player, say, set_prop, attach}
use Rattle.turn_scene.specs.Effects.{for_each}

-- the second clock has this many turns left, or -1 once it has run out
abbrev pub second_clock : ℤ → Test (Unit {0})
second_clock turns d = int_eq d.scene.state.closing.second_clock turns

-- the second clock has at least this many turns left
abbrev pub second_clock_from : ℤ → Test (Unit {0})
second_clock_from turns d = int_le turns d.scene.state.closing.second_clock

-- one turn less is left until the cave is closed
abbrev pub with_second_clock_down : State → State
with_second_clock_down s = let closing = s.closing in
    with_closing (record closing { second_clock = closing.second_clock -ℤ pos 1 }) s

-- the object of a name is put at the place of a role, with the prop that it gets once it was in the
-- hands; until then it is unseen, and its prop is -1 less that one
abbrev pub store : PlaceRole → Named → ℤ → Effect (Unit {0})
store role n v d = set_prop (the n) (UNSEEN -ℤ v) (move (the n) (place_of role) d)

unfoldable pub northeast_things : List (Effect (Unit {0}))
northeast_things =
    store PlaceRole.Ne Named.Bottle BOTTLE_EMPTY
    ∷ store PlaceRole.Ne Named.Plant PLANT_SMALL
    ∷ store PlaceRole.Ne Named.Oyster SEEN
    ∷ store PlaceRole.Ne Named.Lamp LAMP_OFF
    ∷ store PlaceRole.Ne Named.Rod SEEN
    ∷ store PlaceRole.Ne Named.Dwarf SEEN
    ∷ []

-- the mirror is at one end, and its second half at the other
abbrev pub hang_mirror : Effect (Unit {0})
hang_mirror d =
    attach (the Named.Mirror) (λ e. anchor_at (place_of PlaceRole.Sw e))
    (store PlaceRole.Ne Named.Mirror SEEN d)

unfoldable pub southwest_things : List (Effect (Unit {0}))
southwest_things =
    store PlaceRole.Sw Named.Grate GRATE_LOCKED
    ∷ store PlaceRole.Sw Named.Snake SNAKE_GONE
    ∷ store PlaceRole.Sw Named.Bird BIRD_CAGED
    ∷ store PlaceRole.Sw Named.Cage SEEN
    ∷ store PlaceRole.Sw Named.SecondRod SEEN
    ∷ store PlaceRole.Sw Named.Pillow SEEN
    ∷ hang_mirror
    ∷ []

-- things as one effect
abbrev pub all_of : List (Effect (Unit {0})) → Effect (Unit {0})
all_of things d = in_scene (after_all things d).scene d

-- objects are nowhere from now on
abbrev pub without_all : List ℕ → Layout → Layout
without_all xs o = for_each xs (λ x p. after_move_to p x 0) o

-- the player's hands are empty from now on
unfoldable pub with_empty_hands : State → State
with_empty_hands s = with_objects (without_all (objects_in_hands s.objects) s.objects) s

-- the cave is closed from now on
abbrev pub with_cave_closed : State → State
with_cave_closed s = with_closing (record (s.closing) { is_closed = true }) s

-- the cave is closed: the player is at the northeast end of the repository
unfoldable pub close_cave : List (Effect (Unit {0}))
close_cave =
    all_of northeast_things
    ∷ put_player (place_of PlaceRole.Ne)
    ∷ all_of southwest_things
    ∷ change with_empty_hands
    ∷ say role.Repository
    ∷ change with_cave_closed
    ∷ []
