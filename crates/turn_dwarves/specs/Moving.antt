-- How a dwarf moves, and whether it then sees the player.
use Rattle.std.specs.Prelude.{ℕ, true, false, List, [], ◌∷◌, length, slice_index_or}
use Rattle.cave_data.specs.CaveView.{CaveView}
use Rattle.cave_words.specs.Stream.{number_drawn}
use Rattle.cave_world.specs.declared.dwarves.Dwarf.{Dwarf}
use Rattle.turn_scene.specs.Scene.{Scene, with_state, after_draw}
use Rattle.turn_scene.specs.Rows.{Deed, Act, Row, deed, act_of, answer_row, otherwise_row}
use Rattle.turn_scene.specs.Rows.{act_by_table}
use Rattle.turn_scene.specs.Tests.{here, in_the_depths}
use Rattle.cave_world.specs.declared.tables.Table.TheVariants as table
use Rattle.turn_dwarves.specs.Band.{dwarf_of, with_dwarf, sees_player, is_with_player}
use Rattle.turn_dwarves.specs.Band.{was_with_player}
use Rattle.turn_dwarves.specs.Ahead.{ways_of_dwarf}

-- one of the ways of the dwarf is drawn, even if there is only one
unfoldable pub chosen_way : Deed ℕ → Act ℕ
chosen_way d =
    let ways = ways_of_dwarf d in
    let drawn = number_drawn (length ways.step) ways.scene.state.stream in
    act_of (after_draw ways.scene) (slice_index_or ways.step drawn 0)

-- the dwarf that moves
abbrev pub mover : Deed Dwarf → Dwarf
mover d = d.about

-- a dwarf that sees the player comes to the player
abbrev pub comes : Deed Dwarf → Dwarf
comes d = record d.about { place = here d; has_seen = true }

abbrev pub loses_sight : Deed Dwarf → Dwarf
loses_sight d = record d.about { has_seen = false }

-- how a dwarf that has gone to another place changes
abbrev pub dwarf_sight_rows : List (Row Dwarf Dwarf)
dwarf_sight_rows =
    answer_row (sees_player mover ∷ in_the_depths ∷ []) comes
    ∷ answer_row (is_with_player mover ∷ []) comes
    ∷ answer_row (was_with_player mover ∷ []) comes ∷ []

unfoldable pub dwarf_in_sight : Deed Dwarf → Act Dwarf
dwarf_in_sight d = act_by_table table.DwarfSight dwarf_sight_rows
    (otherwise_row [] loses_sight) d

-- a dwarf goes a way
abbrev pub dwarf_on_way : ℕ → Dwarf → Dwarf
dwarf_on_way place dwarf = record dwarf { place = place; last = dwarf.place }

-- the dwarf with a number goes one of its ways and looks around
unfoldable pub after_dwarf_move : CaveView → ℕ → Scene → Scene
after_dwarf_move cave number p =
    let way = chosen_way (deed cave number p) in
    let moved = dwarf_in_sight
    (deed cave (dwarf_on_way way.step (dwarf_of p.state number)) way.scene) in
    with_state (with_dwarf number moved.step moved.scene.state) moved.scene
