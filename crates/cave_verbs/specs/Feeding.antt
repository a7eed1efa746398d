-- FEED and EAT.
use Rattle.std.specs.Prelude.{◌+◌, min, List, [], ◌∷◌}
use Rattle.data_rows.specs.declared.role.Role.TheVariants as role
use Rattle.cave_words.specs.declared.named.Named.{Named}
use Rattle.cave_world.specs.Limits.{MAX_ANGER}
use Rattle.cave_world.specs.declared.state.State.{State}
use Rattle.turn_scene.specs.Scene.{is_one_of}
use Rattle.turn_scene.specs.Props.{AXE_FREE, BEAR_DEAD, BEAR_FED, BEAR_WILD, BIRD_FREE}
use Rattle.turn_scene.specs.Props.{DRAGON_ALIVE}
use Rattle.turn_scene.specs.Parts.{with_dwarves}
use Rattle.turn_scene.specs.Effects.{change, say, destroy, loosen, set_prop, lose_one}
use Rattle.turn_scene.specs.Rows.{Test, Effect, row_then, otherwise_then}
use Rattle.turn_scene.specs.Tests.{no, either, near, prop, other_prop, cave_closed}
use Rattle.cave_verbs.specs.Effects.{default, ask_what}
use Rattle.cave_verbs.specs.Rows.{VerbRow, row, keeps, does, stays, x, is}
use Rattle.cave_verbs.specs.declared.verb.Verb.TheVariants as verb
use Rattle.cave_verbs.specs.declared.task.Task.{Task}
use Rattle.cave_verbs.specs.Things.{axe, bird, food}

abbrev pub is_any : List Named → Test Task
is_any names d = is_one_of d.cave d.about.object names

unfoldable pub bare_eat_rows : List VerbRow
bare_eat_rows =
    row_then (near food ∷ []) [] (does verb.Eat food)
    ∷ otherwise_then (ask_what ∷ []) keeps

unfoldable pub eat_rows : List VerbRow
eat_rows =
    row (is Named.Food ∷ []) (destroy x ∷ say role.Eaten ∷ [])
    ∷ row (is_any (Named.Bird ∷ Named.Snake ∷ Named.Clam ∷ Named.Oyster ∷ Named.Dwarf ∷ Named.Dragon
    ∷ Named.Troll ∷ Named.Bear ∷ []) ∷ []) (say role.NoAppetite ∷ [])
    ∷ otherwise_then (default ∷ []) stays

-- the dwarves are angrier by one, up to the most
abbrev pub with_more_anger : State → State
with_more_anger s =
    with_dwarves (record (s.dwarves) { anger = min (s.dwarves.anger + 1) MAX_ANGER }) s

abbrev pub anger_dwarves : Effect Task
anger_dwarves = change with_more_anger

unfoldable pub feed_rows : List VerbRow
feed_rows =
    row (is Named.Bird ∷ []) (say role.BirdFeed ∷ [])
    ∷ row (is Named.Snake ∷ no cave_closed ∷ near bird ∷ [])
    (destroy bird ∷ set_prop bird BIRD_FREE ∷ lose_one ∷ say role.BirdEaten ∷ [])
    ∷ row (is Named.Dragon ∷ other_prop x DRAGON_ALIVE ∷ []) (say role.Ridiculous ∷ [])
    ∷ row (either (is Named.Snake) (is Named.Dragon) ∷ []) (say role.NotHungry ∷ [])
    ∷ row (is Named.Troll ∷ []) (say role.TrollFeed ∷ [])
    ∷ row (is Named.Dwarf ∷ near food ∷ []) (anger_dwarves ∷ say role.DwarfFeed ∷ [])
    ∷ row (is Named.Dwarf ∷ []) (default ∷ [])
    ∷ row (is Named.Bear ∷ near food ∷ [])
    (destroy food ∷ set_prop x BEAR_FED ∷ loosen axe ∷ set_prop axe AXE_FREE ∷ say role.BearFed
    ∷ [])
    ∷ row (is Named.Bear ∷ prop x BEAR_WILD ∷ []) (say role.NotHungry ∷ [])
    ∷ row (is Named.Bear ∷ prop x BEAR_DEAD ∷ []) (say role.Ridiculous ∷ [])
    ∷ row (is Named.Bear ∷ []) (default ∷ [])
    ∷ otherwise_then (say role.FeedWhat ∷ []) stays
