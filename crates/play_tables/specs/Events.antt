-- What happened at a line of a log, by the states before and after it.
use Rattle.std.specs.Prelude.{ℕ, Bool, true, false, ◌==◌, ◌&&◌, ◌||◌, not, nat_lt, nat_le, List}
use Rattle.std.specs.Prelude.{[], ◌∷◌, codes, Option, None, Some}
use Rattle.std.specs.List.{list_any, range_with_len}
use Rattle.turn_ends.specs.Score.{is_seen, is_safe}
use Rattle.cave_data.specs.CaveView.{CaveView}
use Rattle.base_lines.specs.Numbers.{LAST_HINT}
use Rattle.data_rows.specs.declared.place_role.PlaceRole.TheVariants as landmark
use Rattle.cave_world.specs.State.{is_hint_taken}
use Rattle.cave_world.specs.declared.ending.Ending.{Ending}
use Rattle.cave_world.specs.declared.ending.Question.{Question}
use Rattle.cave_world.specs.declared.state.State.{State}
use Rattle.world_objects.specs.Objects.{is_first_at}
use Rattle.turn_scene.specs.Places.{place_named}
use Rattle.turn_scene.specs.Reach.{is_dwarf_here}
use Rattle.turn_scene.specs.Treasures.{is_known, treasures}
use Rattle.play_tables.specs.declared.events.Event.{Event}

-- ---- what each event is

abbrev pub asks_revival : Option Question → Bool
asks_revival (Some Question.Die) = true
asks_revival _ = false

abbrev pub is_ended_killed : Option Ending → Bool
is_ended_killed (Some Ending.Killed) = true
is_ended_killed _ = false

-- the player is asked whether to come back from death, or the game has ended by a death
abbrev pub is_dead : State → Bool
is_dead s = asks_revival s.question || is_ended_killed s.ending

abbrev pub is_hint_new : State → State → ℕ → Bool
is_hint_new s t hint = is_hint_taken t hint && not (is_hint_taken s hint)

-- the dwarves woke
abbrev pub are_dwarves_woken : State → State → Bool
are_dwarves_woken s t = nat_lt s.dwarves.anger 2 && nat_le 2 t.dwarves.anger

abbrev pub is_dwarf_new : State → State → Bool
is_dwarf_new s t = is_dwarf_here t && not (is_dwarf_here s)

abbrev pub is_dwarf_killed : State → State → Bool
is_dwarf_killed s t = nat_lt s.dwarves.kills t.dwarves.kills

-- an object came to a place
abbrev pub is_new_at : ℕ → State → State → ℕ → Bool
is_new_at place s t x = is_first_at t.objects place x && not (is_first_at s.objects place x)

-- a treasure came to the place of the pirate's chest, while the player isn't there
abbrev pub is_hoard_richer : Option ℕ → State → State → Bool
is_hoard_richer None s t = false
is_hoard_richer (Some hoard) s t =
    not (t.trail.here == hoard) && list_any (is_new_at hoard s t) treasures

-- the treasures that are known count from the moment that they were seen
abbrev pub is_treasure_found : CaveView → State → State → ℕ → Bool
is_treasure_found cave s t x = is_known cave x && (is_seen x t && not (is_seen x s))

abbrev pub is_brought_home : CaveView → State → State → ℕ → Bool
is_brought_home cave s t x = is_known cave x && (is_safe cave x t && not (is_safe cave x s))

-- ---- the table

abbrev pub event_happens : CaveView → State → State → Event → Bool
event_happens cave s t Event.Died = is_dead t && not (is_dead s)
event_happens cave s t Event.Revived = is_dead s && not (is_dead t)
event_happens cave s t Event.Hint = list_any (is_hint_new s t) (range_with_len 1 LAST_HINT)
event_happens cave s t Event.Dwarf =
    are_dwarves_woken s t || (is_dwarf_new s t || is_dwarf_killed s t)
event_happens cave s t Event.Pirate = is_hoard_richer (place_named cave landmark.Chest) s t
event_happens cave s t Event.Closing = t.closing.is_closing && not s.closing.is_closing
event_happens cave s t Event.Closed = t.closing.is_closed && not s.closing.is_closed
event_happens cave s t Event.TreasureFound = list_any (is_treasure_found cave s t) treasures
event_happens cave s t Event.TreasureHome = list_any (is_brought_home cave s t) treasures

abbrev pub event_name : Event → List ℕ
event_name Event.Died = codes "died"
event_name Event.Revived = codes "revived"
event_name Event.Hint = codes "hint"
event_name Event.Dwarf = codes "dwarf"
event_name Event.Pirate = codes "pirate"
event_name Event.Closing = codes "closing"
event_name Event.Closed = codes "closed"
event_name Event.TreasureFound = codes "treasure found"
event_name Event.TreasureHome = codes "treasure home"

abbrev pub each_event : List Event
each_event =
    Event.Died ∷ Event.Revived ∷ Event.Hint ∷ Event.Dwarf ∷ Event.Pirate ∷ Event.Closing
    ∷ Event.Closed ∷ Event.TreasureFound ∷ Event.TreasureHome ∷ []
