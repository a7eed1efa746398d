use Rattle.std.proofs.Common.{◌≡◌}
use Rattle.std.specs.List.{list_any}
use Rattle.turn_scene.specs.Scene.{cave_of}
use Rattle.turn_scene.specs.Treasures.{treasures}
use Rattle.play_tables.specs.Events.{is_brought_home}
use Rattle.play_tables.proofs.Walking.{treasures_left}
use Rattle.play_tables.proofs.events.is_some_brought_home.Given as goal

-- it holds of none before this one
abbrev pub invariant-loop-number : goal.invariant-loop-number
invariant-loop-number l =
    list_any (is_brought_home (cave_of l.rules) l.before l.after) (treasures_left l.number)
    ≡ list_any (is_brought_home (cave_of l.rules) l.before l.after) treasures
