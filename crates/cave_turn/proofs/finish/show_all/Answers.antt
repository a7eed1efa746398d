use Rattle.std.proofs.Common.{rules, arith, ap, ◌∙◌}
use Rattle.turn_scene.specs.Scene.{cave_of, scene_of}
use Rattle.cave_turn.specs.Finish.{after_object_shown}
use Rattle.turn_scene.specs.Effects.{for_each_from}
use Rattle.cave_turn.proofs.finish.show_all.Goals as goal

pub loop-before-init : goal.loop-before-init
unfolding for_each_from
loop-before-init g c = search rules

pub loop-before-preserved : goal.loop-before-preserved
unfolding for_each_from
loop-before-preserved g c = search rules

pub returns-clause-scene : goal.returns-clause-scene
returns-clause-scene g c =
    c.loop-before.invariant.0
    ∙ ap (λ n. for_each_from 1 n (after_object_shown (cave_of c.args.rules.now))
    (scene_of g.N.RowNotes.rows c.args.scene.now))
    (omega arith)
