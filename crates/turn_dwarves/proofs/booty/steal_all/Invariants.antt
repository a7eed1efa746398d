use Rattle.std.proofs.Common.{◌≡◌}
use Rattle.turn_scene.specs.Bounds.{GoesOnSaying}
use Rattle.turn_scene.specs.Scene.{cave_of, scene_of}
use Rattle.turn_scene.specs.Treasures.{treasures}
use Rattle.turn_dwarves.specs.Pirate.{after_stealing_all}
use Rattle.turn_dwarves.proofs.Treasures.{treasures_from}
use Rattle.turn_dwarves.proofs.booty.steal_all.Given as goal

-- stealing the remaining treasures is stealing all
abbrev pub invariant-loop-number : goal.invariant-loop-number
invariant-loop-number g l =
    (after_stealing_all (cave_of l.rules) (treasures_from l.number)
    (scene_of g.N.RowNotes.rows l.scene)
    ≡ after_stealing_all (cave_of l.rules) treasures (scene_of g.N.RowNotes.rows l.initial.scene))
    × GoesOnSaying 0 l.initial.scene l.scene
