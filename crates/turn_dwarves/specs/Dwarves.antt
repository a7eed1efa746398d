-- What the dwarves do as the player arrives.
use Rattle.std.specs.Prelude.{Bool, false, not, ◌==◌, List, [], ◌∷◌}
use Rattle.cave_data.specs.CaveView.{CaveView}
use Rattle.turn_scene.specs.Scene.{Scene}
use Rattle.cave_world.specs.Limits.{ASLEEP, STIRRING}
use Rattle.turn_scene.specs.Rows.{Deed, Act, Effect, Row, deed, row_then, answer_row, by_table}
use Rattle.turn_scene.specs.Rows.{first_fitting_or, nothing_but, always, otherwise_then, noted}
use Rattle.turn_scene.specs.Tests.{in_the_depths, anger}
use Rattle.turn_scene.specs.Effects.{change, follow}
use Rattle.cave_world.specs.declared.tables.Table.TheVariants as table
use Rattle.turn_dwarves.specs.Band.{with_anger}
use Rattle.turn_dwarves.specs.Knives.{no_attack, raid}
use Rattle.turn_dwarves.specs.Lines.{tell_attack}
use Rattle.turn_dwarves.specs.Pirate.{after_pirate}
use Rattle.turn_dwarves.specs.Waking.{waking_rows}
use Rattle.turn_dwarves.specs.declared.knives.Attack.{Attack}

-- at least one knife hit the player
abbrev pub is_struck : Deed Attack → Bool
is_struck d = not (d.about.hits == 0)

-- the five act, then the pirate, and then it is printed what the five did
unfoldable pub awake : List (Effect Attack)
awake = raid ∷ follow after_pirate ∷ tell_attack

-- their anger says whether the dwarves sleep, stir, or are awake
unfoldable pub anger_rows : List (Row Attack Bool)
anger_rows =
    row_then (anger ASLEEP ∷ in_the_depths ∷ []) (change (with_anger STIRRING) ∷ []) (always false)
    ∷ answer_row (anger ASLEEP ∷ []) (always false)
    ∷ row_then (anger STIRRING ∷ []) (by_table table.Waking waking_rows ∷ []) (always false)
    ∷ otherwise_then awake is_struck

-- what follows is whether a knife hit the player
unfoldable pub encounter_dwarves : CaveView → Scene → Act Bool
encounter_dwarves cave p =
    first_fitting_or (noted table.Anger anger_rows) (nothing_but (always false))
    (deed cave no_attack p)
