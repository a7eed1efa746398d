-- How a player comes back from death.
use Rattle.std.specs.Prelude.{ℕ, nat_le, List, [], ◌∷◌}
use Rattle.base_lines.specs.Numbers.{LAST_OBJECT}
use Rattle.data_rows.specs.declared.role.Role.TheVariants as role
use Rattle.cave_data.specs.CaveView.{CaveView}
use Rattle.cave_words.specs.declared.named.Named.TheVariants as name
use Rattle.cave_world.specs.declared.ending.Ending.TheVariants.{Killed}
use Rattle.cave_world.specs.declared.ending.Question.{Question}
use Rattle.cave_world.specs.State.{LIVES}
use Rattle.turn_ends.specs.Endings.{count_death, end_as}
use Rattle.turn_scene.specs.Rows.{Test, Effect, Row, deed, plain_row, otherwise, by_table}
use Rattle.turn_scene.specs.Tests.{the, it, is_it, carried, in_hands, deaths, start, older, building}
use Rattle.turn_scene.specs.Effects.{in_scene, follow, move, put_player, say, set_prop}
use Rattle.turn_scene.specs.Effects.{for_each_down_from}
use Rattle.turn_scene.specs.Scene.{Scene}
use Rattle.turn_scene.specs.Props.{LAMP_OFF}
use Rattle.cave_world.specs.declared.tables.Table.TheVariants as table
use Rattle.turn_moves.specs.Arrival.{after_description}

-- what is said at a first, a second, a third revival
unfoldable pub reborn_rows : List (Row Question (Unit {0}))
reborn_rows =
    plain_row (deaths 0 ∷ []) (say role.Reborn1 ∷ [])
    ∷ plain_row (deaths 1 ∷ []) (say role.Reborn2 ∷ [])
    ∷ otherwise (say role.Reborn3 ∷ [])

-- a lamp that the player carries is put out
unfoldable pub put_out_rows : List (Row Question (Unit {0}))
put_out_rows =
    plain_row (carried (the name.Lamp) ∷ []) (set_prop (the name.Lamp) LAMP_OFF ∷ []) ∷ []

-- what a dead player had in the hands falls: the lamp where the game begins, and all else at the
-- older place of the trail, which each death except one at place 0 sets to where things are left
unfoldable pub fall_rows : List (Row ℕ (Unit {0}))
fall_rows =
    plain_row (in_hands it ∷ is_it name.Lamp ∷ []) (move it start ∷ [])
    ∷ plain_row (in_hands it ∷ []) (move it older ∷ [])
    ∷ []

unfoldable pub after_fall : CaveView → ℕ → Scene → Scene
after_fall cave x p = (by_table table.Fall fall_rows (deed cave x p)).scene

-- the last object falls first
abbrev pub leave_belongings : Effect Question
leave_belongings d = in_scene (for_each_down_from LAST_OBJECT (after_fall d.cave) d.scene) d

unfoldable pub revive : List (Effect Question)
revive =
    by_table table.LampPutOut put_out_rows
    ∷ leave_belongings
    ∷ put_player building
    ∷ follow after_description
    ∷ []

abbrev pub dead_for_good : Test Question
dead_for_good d = nat_le LIVES d.scene.state.tallies.deaths

-- the third death is the last
unfoldable pub revival_rows : List (Row Question (Unit {0}))
revival_rows =
    plain_row (dead_for_good ∷ []) (end_as Killed ∷ [])
    ∷ otherwise revive

-- the player wants to come back
unfoldable pub come_back : List (Effect Question)
come_back =
    by_table table.Reborn reborn_rows
    ∷ count_death
    ∷ by_table table.Revival revival_rows
    ∷ []

-- the player doesn't want to come back, and is dead
unfoldable pub bury : List (Effect Question)
bury = say role.Ok ∷ count_death ∷ end_as Killed ∷ []
