use Rattle.std.proofs.Common.{◌≡◌}
use Rattle.std.specs.List.{list_any}
use Rattle.turn_scene.specs.Reach.{is_near}
use Rattle.turn_scene.specs.Treasures.{treasures}
use Rattle.turn_scene.specs.Scene.{cave_of, scene_of}
use Rattle.turn_dwarves.proofs.Treasures.{treasures_from}
use Rattle.turn_dwarves.proofs.booty.is_treasure_near.Given as goal

-- none of the treasures before this one is at hand
abbrev pub invariant-loop-number : goal.invariant-loop-number
invariant-loop-number g l =
    list_any (is_near (cave_of l.rules) (scene_of g.N.RowNotes.rows l.scene).state)
    (treasures_from l.number)
    ≡ list_any (is_near (cave_of l.rules) (scene_of g.N.RowNotes.rows l.scene).state) treasures
