-- The objects so far are shown.
use Rattle.std.proofs.Common.{◌≡◌}
use Rattle.turn_scene.specs.Bounds.{GoesOnSaying}
use Rattle.turn_scene.specs.Scene.{cave_of, scene_of}
use Rattle.cave_turn.specs.Finish.{after_object_shown}
use Rattle.turn_scene.specs.Effects.{for_each_from}
use Rattle.cave_turn.proofs.finish.show_all.Given as goal

abbrev pub invariant-loop-before : goal.invariant-loop-before
invariant-loop-before g l =
    (scene_of g.N.RowNotes.rows l.scene
    ≡ for_each_from 1 l.before (after_object_shown (cave_of l.rules))
    (scene_of g.N.RowNotes.rows l.initial.scene))
    × GoesOnSaying 0 l.initial.scene l.scene
