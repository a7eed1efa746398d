-- What happens as a player arrives.
use Rattle.std.specs.Prelude.{ℕ, zero, suc, Bool, ◌==◌, ◌&&◌, if◌then◌else◌, List, [], ◌∷◌, take}
use Rattle.std.specs.Prelude.{true, false}
use Rattle.std.specs.List.{list_any}
use Rattle.data_rows.specs.declared.role.Role.TheVariants as role
use Rattle.cave_data.specs.CaveView.{CaveView}
use Rattle.cave_world.specs.Limits.{PIRATE}
use Rattle.cave_world.specs.Motions.{any_motion}
use Rattle.cave_world.specs.declared.dwarves.Dwarf.{Dwarf}
use Rattle.turn_scene.specs.Scene.{Scene, after_saying, with_left, scene_at_place}
use Rattle.turn_scene.specs.declared.conditions.PlaceCondition.TheVariants.{NoPirate}
use Rattle.turn_dwarves.specs.Dwarves.{encounter_dwarves}
use Rattle.cave_world.specs.declared.tables.Table.TheVariants as table
use Rattle.turn_scene.specs.Rows.{Deed, Act, Test, Row, deed, row_then, answer_row}
use Rattle.turn_scene.specs.Rows.{first_fitting_or, nothing_but, always, otherwise_then, noted}
use Rattle.turn_scene.specs.Tests.{no, same, here, outside, cave_closing, forced_at, place_has}
use Rattle.turn_scene.specs.Tests.{over, there_is}
use Rattle.turn_scene.specs.Effects.{say}
use Rattle.turn_scene.specs.SharedRules.{panic}
use Rattle.turn_ends.specs.Endings.{die}
use Rattle.turn_moves.specs.Description.{tell_place, describe_place, stop_here}
use Rattle.turn_moves.specs.Journeys.{set_forth}
use Rattle.turn_moves.specs.Ways.{die_at}

-- the place where the player is about to arrive
abbrev pub new : Deed ℕ → ℕ
new d = d.about

-- a dwarf that has seen the player comes from the place
abbrev pub comes_from : ℕ → Dwarf → Bool
comes_from place dwarf = dwarf.has_seen && dwarf.last == place

-- one of the dwarves before the pirate comes from a place
abbrev pub dwarf_from : (Deed ℕ → ℕ) → Test ℕ
dwarf_from place d = list_any (comes_from (place d)) (take PIRATE d.scene.state.dwarves.each)

-- a closing cave has no way out, and a dwarf bars the way to the place that it came from
unfoldable pub blocking_rows : List (Row ℕ ℕ)
blocking_rows =
    row_then (cave_closing ∷ there_is new ∷ outside new ∷ [])
    (say role.ClosingExit ∷ panic ∷ []) here
    ∷ row_then (dwarf_from new ∷ no (same new here) ∷ no (forced_at here)
    ∷ no (place_has NoPirate here) ∷ []) (say role.Blocked ∷ []) here
    ∷ []

-- where the player arrives
unfoldable pub block : Deed ℕ → Act ℕ
block d = first_fitting_or (noted table.Blocking blocking_rows) (nothing_but new) d

-- the player is nowhere
abbrev pub at_no_place : Test (Unit {0})
at_no_place d = here d == 0

-- place 0 is death; at a place of forced motion only the text is printed, and dwarves don't move
-- where the pirate doesn't come
unfoldable pub place_rows : List (Row (Unit {0}) Bool)
place_rows =
    row_then (at_no_place ∷ []) (die ∷ []) (always false)
    ∷ row_then (forced_at here ∷ []) tell_place (always true)
    ∷ row_then (place_has NoPirate here ∷ []) (describe_place ∷ []) (always false)
    ∷ []

-- what dwarves leave: a knife kills, and otherwise the place is described
unfoldable pub hit_rows : List (Row Bool Bool)
hit_rows =
    row_then ((λ d. d.about) ∷ []) (die_at here ∷ []) (always false)
    ∷ otherwise_then (describe_place ∷ []) (always false)

-- the dwarves move, and the place is described
unfoldable pub meet : Deed (Unit {0}) → Act Bool
meet d =
    let met = encounter_dwarves d.cave d.scene in
    first_fitting_or (noted table.Hits hit_rows) (nothing_but (always false))
    (deed d.cave met.step met.scene)

-- the player comes to a place
unfoldable pub come_to : CaveView → ℕ → Scene → Act Bool
come_to cave place p =
    first_fitting_or (noted table.Arrival place_rows) meet (deed cave tt (scene_at_place place p))

-- after a death on the way no one arrives
unfoldable pub over_rows : List (Row ℕ Bool)
over_rows = answer_row (over ∷ []) (always false) ∷ []

-- otherwise the player arrives at the place, if nothing is in the way
abbrev pub come_on : Deed ℕ → Act Bool
come_on d = let held = block d in come_to d.cave held.step held.scene

unfoldable pub stop_at : CaveView → ℕ → Scene → Act Bool
stop_at cave place p = first_fitting_or over_rows come_on (deed cave place p)

-- a player who is moved on sets out by any motion, and is shown the next place; then this many
-- forced motions are left
abbrev pub move_on : ℕ → CaveView → Scene → Act Bool
move_on left cave p =
    let j = set_forth cave any_motion (with_left left p) in stop_at cave j.step j.scene

-- this goes on while the player is at a place of forced motion and some forced motions are left
unfoldable pub after_forced_motions : ℕ → CaveView → Act Bool → Scene
after_forced_motions zero cave s = if s.step then after_saying role.ForcedLimit s.scene else s.scene
after_forced_motions (suc left) cave s =
    if s.step then after_forced_motions left cave (move_on left cave s.scene) else s.scene

-- the player arrives at a place; the forced motions that are left are those of the whole turn
abbrev pub after_arrival : CaveView → ℕ → Scene → Scene
after_arrival cave place p = after_forced_motions p.left cave (stop_at cave place p)

-- the player's place is described again, without an arrival
abbrev pub after_description : CaveView → Scene → Scene
after_description cave p = after_forced_motions p.left cave (stop_here (deed cave tt p))
