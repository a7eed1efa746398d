-- Letting the rest fall from here is letting all fall.
use Rattle.std.proofs.Common.{◌≡◌, ◌-◌}
use Rattle.turn_scene.specs.Bounds.{GoesOnSaying}
use Rattle.turn_scene.specs.Scene.{cave_of, scene_of}
use Rattle.turn_scene.specs.Effects.{for_each_down_from}
use Rattle.cave_turn.specs.Revival.{after_fall}
use Rattle.cave_turn.proofs.revival.leave_belongings.Given as goal

abbrev pub invariant-loop-before : goal.invariant-loop-before
invariant-loop-before g l =
    (for_each_down_from (100 - l.before) (after_fall (cave_of l.rules))
    (scene_of g.N.RowNotes.rows l.scene)
    ≡ for_each_down_from 100 (after_fall (cave_of l.rules))
    (scene_of g.N.RowNotes.rows l.initial.scene))
    × GoesOnSaying 0 l.initial.scene l.scene
