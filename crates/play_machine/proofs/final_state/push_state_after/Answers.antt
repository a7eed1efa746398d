use Rattle.std.proofs.Common.{◌++◌, ap, ◌∙◌}
use Rattle.std.proofs.lemmas.Result.{on_ok_weaker}
use Rattle.cave_world.specs.declared.state.State.{State}
use Rattle.play_state_text.specs.StateText.{state_text}
use Rattle.turn_ends.specs.Begin.{starting_objects}
use Rattle.play_machine.proofs.FinalStateLemmas.{begun_objects}
use Rattle.play_machine.proofs.final_state.push_state_after.Goals as goal

pub returns : goal.returns
returns c =
    let same = c.cave-cave.ensures in
    let begun = ap (λ (s : State). s.objects) c.begun_state-begun.ensures.state
    ∙ begun_objects c.cave-cave.result.now _ ∙ ap starting_objects same in
    on_ok_weaker c.push_state.result
    (λ told. told ∙ (λ i. c.args.text.now.items ++ state_text (same i) (begun i) c.args.turns
    (c.score-score.ensures.value i) c.args.state.now)) c.push_state.ensures
