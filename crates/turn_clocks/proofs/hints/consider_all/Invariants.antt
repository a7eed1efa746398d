-- The hints so far are considered, and at most one was offered.
use Rattle.std.proofs.Common.{◌≡◌, false}
use Rattle.cave_data.specs.CaveView.{cond_of}
use Rattle.turn_scene.specs.Effects.{for_each_from}
use Rattle.turn_scene.specs.Bounds.{SaysUpTo, parts_of_question}
use Rattle.turn_scene.specs.Scene.{scene_of, GoesOn, cave_of}
use Rattle.cave_world.specs.State.{takes_no_command}
use Rattle.turn_clocks.specs.Hints.{after_consider, FIRST_HINT}
use Rattle.turn_clocks.proofs.hints.consider_all.Given as goal

abbrev pub invariant-loop-before : goal.invariant-loop-before
invariant-loop-before g l =
    (scene_of g.N.RowNotes.rows l.scene ≡ for_each_from FIRST_HINT l.before
    (after_consider (cave_of l.rules)) (scene_of g.N.RowNotes.rows l.initial.scene))
    × SaysUpTo parts_of_question l.initial.scene l.scene
    × (takes_no_command l.scene.state.now ≡ false → SaysUpTo 0 l.initial.scene l.scene)
    × GoesOn l.initial.scene l.scene
    × (l.conditions ≡ cond_of (cave_of l.rules) l.scene.state.now.trail.here)
