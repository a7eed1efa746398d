use Rattle.std.proofs.Common.{rules, ◌≡◌, ◌+◌, ◌-◌, ap, sym, ◌∙◌, arith}
use Rattle.turn_scene.specs.Scene.{cave_of, scene_of}
use Rattle.turn_scene.specs.Effects.{for_each_down_from}
use Rattle.cave_turn.specs.Revival.{after_fall}
use Rattle.cave_turn.proofs.Steps.{one_less-down, none-down}
use Rattle.cave_turn.proofs.revival.leave_belongings.Goals as goal

pub loop-before-preserved : goal.loop-before-preserved
loop-before-preserved g c =
    let fall = after_fall (cave_of c.args.rules.now) in
    let here = scene_of g.N.RowNotes.rows c.loop-before.scene in
    let left = 100 - c.loop-before.before in
    let object : c.new-object.result ≡ left = search rules in
    let fallen = c.let_fall.ensures.scene ∙ ap (λ x. fall x here) object in (
      one_less-down left (100 - (c.loop-before.before + 1)) fall here
          (scene_of g.N.RowNotes.rows c.let_fall.new.scene) (omega arith) (omega arith) fallen
          ∙ c.loop-before.invariant.0,
      search rules,
    )

pub returns-clause-scene : goal.returns-clause-scene
returns-clause-scene g c =
    let fall = after_fall (cave_of c.args.rules.now) in
    let here = scene_of g.N.RowNotes.rows c.loop-before.scene in
    let none : 100 - c.loop-before.before ≡ 0 = omega arith in
    sym (none-down fall here)
    ∙ ap (λ n. for_each_down_from n fall here) (sym none)
    ∙ c.loop-before.invariant.0
