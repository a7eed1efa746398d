use Rattle.std.proofs.Common.{rules, ◌≡◌, ◌+◌, ◌<◌, ℕ, ap, sym, ◌∙◌, arith}
use Rattle.cave_data.specs.CaveView.{cond_of}
use Rattle.turn_scene.specs.Scene.{scene_of, cave_of}
use Rattle.cave_world.specs.State.{takes_no_command, turns_in_area}
use Rattle.cave_world.specs.declared.state.Trail.{Trail}
use Rattle.turn_scene.specs.Effects.{for_each_from}
use Rattle.turn_clocks.specs.Hints.{after_consider, FIRST_HINT}
use Rattle.turn_clocks.proofs.Quiet.{quiet_hints}
use Rattle.turn_clocks.proofs.Steps.{one_more, after_hints-all, few-asked}
use Rattle.turn_clocks.proofs.hints.consider_all.Goals as goal

pub loop-before-init : goal.loop-before-init
unfolding for_each_from
loop-before-init g c = search rules

pub loop-before-preserved : goal.loop-before-preserved
loop-before-preserved g c =
    let cave = cave_of c.args.rules.now in
    let before = c.loop-before.before in
    let here = scene_of g.N.RowNotes.rows c.loop-before.scene in
    let number : c.new.result ≡ FIRST_HINT + before = search rules in
    let scene =
    c.consider.ensures.scene ∙ ap (λ n. after_consider cave n here) number
    ∙ ap (λ p. after_consider cave (FIRST_HINT + before) p) c.loop-before.invariant.0
    ∙ sym (one_more FIRST_HINT before (after_consider cave) (scene_of g.N.RowNotes.rows c.args.scene.now)) in
    let here_over = takes_no_command c.loop-before.scene.state.now in
    let few =
    few-asked here_over _ _ _ c.loop-before.invariant.1 c.loop-before.invariant.2
    c.consider.ensures.says.1 c.consider.ensures.few_over in (
      scene,
      few,
      (λ on.
          let before = c.loop-before.invariant.2 (c.consider.ensures.stays on) in
          let now = c.consider.ensures.few_on on in
          omega (arith, before, now)),
      search rules,
      c.loop-before.invariant.4
          ∙ ap (λ (t : Trail). cond_of cave t.here) (sym c.consider.ensures.here),
    )

pub returns-clause-scene : goal.returns-clause-scene
returns-clause-scene g c =
    let cave = cave_of c.args.rules.now in
    let count = c.count_hints-count.result in
    let last : c.loop-before.before ≡ count = omega arith in
    c.loop-before.invariant.0
    ∙ ap (λ n. for_each_from FIRST_HINT n (after_consider cave)
    (scene_of g.N.RowNotes.rows c.args.scene.now)) last
    ∙ after_hints-all cave count _ c.count_hints-count.ensures.few
    c.count_hints-count.ensures.all

pub returns-then-counts_no_turn-clause-scene : goal.returns-then-counts_no_turn-clause-scene
returns-then-counts_no_turn-clause-scene g c =
    let cave = cave_of c.args.rules.now in
    let count = c.count_hints-count.result in
    let here = scene_of g.N.RowNotes.rows c.args.scene.now in
    let low : cond_of cave here.state.trail.here < 16 = search rules in
    let none : (n : ℕ) → n < count → turns_in_area here.state (FIRST_HINT + n) ≡ 0 = search rules in
    sym (quiet_hints cave count here low none)
    ∙ after_hints-all cave count here c.count_hints-count.ensures.few
    c.count_hints-count.ensures.all
