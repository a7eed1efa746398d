use Rattle.std.proofs.Common.{◌≡◌}
use Rattle.turn_scene.specs.Bounds.{GoesOnSaying}
use Rattle.turn_scene.specs.Scene.{cave_of, scene_of}
use Rattle.turn_scene.specs.Effects.{for_each_from}
use Rattle.turn_dwarves.specs.Waking.{after_keeping_one_apart}
use Rattle.turn_dwarves.proofs.waking.keep_apart.Given as goal

-- the dwarves before this one are kept apart
abbrev pub invariant-loop-number : goal.invariant-loop-number
invariant-loop-number g l = record {
  apart :
      scene_of g.N.RowNotes.rows l.scene
      ≡ for_each_from 0 l.number (after_keeping_one_apart (cave_of l.rules))
      (scene_of g.N.RowNotes.rows l.initial.scene);
  says : GoesOnSaying 0 l.initial.scene l.scene;
}
