use Rattle.std.proofs.Common.{◌++◌, ap, ◌∙◌}
use Rattle.std.proofs.lemmas.Result.{on_ok_weaker}
use Rattle.play_machine.specs.FinalState.{state_text_after}
use Rattle.play_machine.specs.Transcript.{ticks}
use Rattle.play_machine.specs.declared.machine.CaveMachine.{CaveMachine}
use Rattle.play_machine.proofs.FinalStateLemmas.{final_state-played}
use Rattle.play_machine.proofs.final_state.push_final_state.Goals as goal

pub returns : goal.returns
returns c =
    let held = c.args.session.now in
    let old = c.args.text.now.items in
    let taken = c.ticks-turns.result in
    let turns = c.ticks-turns.ensures ∙ ap (ticks held.ticks) c.lines.ensures.lines in
    let same = ap (λ (m : CaveMachine). m.rules.cave.now) c.machine.ensures in
    on_ok_weaker c.push_state_after.result
    (λ told. told ∙ (λ i. old ++ state_text_after (same i) taken (c.state.ensures.state i))
    ∙ ap (λ t. old ++ t) (final_state-played held.machine.rules.cave.now held.game _ _ held.ticks
    held.state taken turns c.state.ensures.plays)) c.push_state_after.ensures
