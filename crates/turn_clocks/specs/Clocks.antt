-- The clocks and the lamp, which go on before a command is read.
use Rattle.std.specs.Prelude.{pos, negsuc, Bool, true, false, List, [], ◌∷◌, if◌then◌else◌}
use Rattle.data_rows.specs.declared.place_role.PlaceRole.TheVariants as place
use Rattle.cave_data.specs.CaveView.{CaveView}
use Rattle.turn_scene.specs.Scene.{Scene, here_of}
use Rattle.turn_scene.specs.Rows.{Deed, Act, Row, deed, row_then, first_fitting_or, nothing_but}
use Rattle.turn_scene.specs.Rows.{always, act_of, noted}
use Rattle.turn_scene.specs.Tests.{no, cave_closed, is_bound, player_at, in_the_depths}
use Rattle.turn_scene.specs.Effects.{change}
use Rattle.cave_world.specs.declared.tables.Table.TheVariants as table
use Rattle.turn_clocks.specs.declared.clocks.Clocks.{Clocks}
use Rattle.turn_clocks.specs.declared.clocks.Clocks.TheVariants.{Closed}
use Rattle.turn_clocks.specs.FirstClock.{all_seen, first_clock, some_turns_left}
use Rattle.turn_clocks.specs.FirstClock.{with_first_clock_down, begin_closing}
use Rattle.turn_clocks.specs.Lamp.{lamp_clock}
use Rattle.turn_clocks.specs.Repository.{second_clock, second_clock_from}
use Rattle.turn_clocks.specs.Repository.{with_second_clock_down, close_cave}

-- the second clock runs once the first has run out; what follows says whether the cave is closed in
-- this turn
unfoldable pub clock_rows : List (Row (Unit {0}) Bool)
clock_rows =
    row_then (all_seen ∷ in_the_depths ∷ no (player_at place.Y2) ∷ first_clock (pos 1) ∷ [])
    begin_closing (always false)
    ∷ row_then (all_seen ∷ in_the_depths ∷ no (player_at place.Y2) ∷ some_turns_left ∷ [])
    (change with_first_clock_down ∷ []) (always false)
    ∷ row_then (first_clock (negsuc 0) ∷ second_clock (pos 1) ∷ no cave_closed ∷ is_bound place.Ne
    ∷ is_bound place.Sw ∷ []) (change with_second_clock_down ∷ close_cave) (always true)
    ∷ row_then (first_clock (negsuc 0) ∷ second_clock_from (pos 0) ∷ [])
    (change with_second_clock_down ∷ []) (always false)
    ∷ []

-- one of the clocks goes on by a turn, if one runs
unfoldable pub tick_clocks : Deed (Unit {0}) → Act Bool
tick_clocks d = first_fitting_or (noted table.Clocks clock_rows) (nothing_but (always false)) d

-- the clocks go on, and then the lamp, except in the turn that closes the cave
unfoldable pub run_clocks : CaveView → Scene → Act Clocks
run_clocks cave p =
    let a = tick_clocks (deed cave tt p) in
    if a.step then act_of a.scene (Closed (here_of a.scene)) else lamp_clock (deed cave tt a.scene)
