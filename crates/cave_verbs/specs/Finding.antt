-- FIND and INVENTORY.
use Rattle.std.specs.Prelude.{ℕ, Bool, ◌==◌, ◌&&◌, not, List, [], ◌∷◌, ◌++◌, length, map, filter}
use Rattle.std.specs.List.{range_with_len}
use Rattle.base_lines.specs.Numbers.{LAST_OBJECT}
use Rattle.data_rows.specs.declared.role.Role.TheVariants as role
use Rattle.cave_data.specs.CaveView.{CaveView}
use Rattle.cave_words.specs.declared.named.Named.TheVariants as name
use Rattle.cave_world.specs.declared.part.Part.TheVariants as part
use Rattle.cave_world.specs.declared.state.State.{State}
use Rattle.turn_scene.specs.Scene.{is_called, Scene}
use Rattle.turn_scene.specs.Reach.{is_carried}
use Rattle.turn_scene.specs.Rows.{Deed, Test, Effect, Row, plain_row, otherwise_then, by_table}
use Rattle.turn_scene.specs.Effects.{in_scene, say}
use Rattle.turn_scene.specs.Tests.{carried, is_here, dwarf, cave_closed, in_bottle, in_lake}
use Rattle.cave_verbs.specs.Rows.{VerbRow, row, stays, x, is}
use Rattle.cave_verbs.specs.Effects.{default}
use Rattle.cave_verbs.specs.declared.task.Task.{Task}
use Rattle.cave_world.specs.declared.tables.Table.TheVariants as table
use Rattle.cave_verbs.specs.Things.{bear, bottle}

-- FIND an object, and INVENTORY of one
unfoldable pub find_rows : List VerbRow
find_rows =
    row (carried x ∷ []) (say role.HeldIt ∷ [])
    ∷ row (cave_closed ∷ []) (say role.Around ∷ [])
    ∷ row (is_here x ∷ []) (say role.HereIt ∷ [])
    ∷ row (in_bottle x ∷ is_here bottle ∷ []) (say role.HereIt ∷ [])
    ∷ row (in_lake x ∷ []) (say role.HereIt ∷ [])
    ∷ row (is name.Dwarf ∷ dwarf ∷ []) (say role.HereIt ∷ [])
    ∷ otherwise_then (default ∷ []) stays

-- what the inventory lists is carried, and isn't the bear
abbrev pub is_in_inventory : CaveView → State → ℕ → Bool
is_in_inventory cave s x = is_carried cave s x && not (is_called cave x name.Bear)

-- those of this many objects, from 1 on, that the inventory lists
unfoldable pub listed_up_to : CaveView → State → ℕ → List ℕ
listed_up_to cave s n = filter (is_in_inventory cave s) (range_with_len 1 n)

-- the objects that the inventory lists, ascending
abbrev pub objects_listed : Deed Task → List ℕ
objects_listed d = listed_up_to d.cave d.scene.state LAST_OBJECT

abbrev pub is_inventory_empty : Test Task
is_inventory_empty d = length (objects_listed d) == 0

abbrev pub after_naming : List ℕ → Scene → Scene
after_naming objects p = record p { parts = p.parts ++ map part.Name objects }

abbrev pub name_them : Effect Task
name_them d = in_scene (after_naming (objects_listed d) d.scene) d

-- the game says that the bear follows, if the player has it
unfoldable pub bear_along_rows : List (Row Task (Unit {0}))
bear_along_rows = plain_row (carried bear ∷ []) (say role.BearFollows ∷ []) ∷ []

abbrev pub tell_bear : Effect Task
tell_bear = by_table table.BearAlong bear_along_rows

unfoldable pub bare_inventory_rows : List VerbRow
bare_inventory_rows =
    row (is_inventory_empty ∷ []) (say role.Empty ∷ tell_bear ∷ [])
    ∷ otherwise_then (say role.Holding ∷ name_them ∷ tell_bear ∷ []) stays
