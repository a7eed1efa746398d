-- The objects so far are gathered.
use Rattle.std.proofs.Common.{◌≡◌}
use Rattle.turn_scene.specs.Bounds.{GoesOnSaying}
use Rattle.turn_scene.specs.Scene.{cave_of, scene_of}
use Rattle.cave_turn.specs.Dragon.{after_gather}
use Rattle.turn_scene.specs.Effects.{for_each_from}
use Rattle.cave_turn.proofs.dragon.gather.Given as goal

abbrev pub invariant-loop-before : goal.invariant-loop-before
invariant-loop-before g l =
    (scene_of g.N.RowNotes.rows l.scene
    ≡ for_each_from 1 l.before (after_gather (cave_of l.rules) l.lair)
    (scene_of g.N.RowNotes.rows l.initial.scene))
    × GoesOnSaying 0 l.initial.scene l.scene
