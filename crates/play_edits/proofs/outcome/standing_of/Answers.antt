use Rattle.std.proofs.Common.{refl, ap, ◌∙◌}
use Rattle.turn_ends.specs.Score.{score_of, max_score_of}
use Rattle.play_machine.specs.Transcript.{ticks}
use Rattle.play_edits.proofs.StandingLemmas.{standing-played, standing-same}
use Rattle.play_edits.proofs.outcome.standing_of.Goals as goal

pub returns-clause-value : goal.returns-clause-value
returns-clause-value c =
    let held = c.args.session.now in
    let cave = held.machine.rules.cave.now in
    let made = ap (λ m. m.rules.cave.now) c.machine-machine.ensures in
    let state = c.state-state.ensures.state in
    let score = c.score.ensures.value ∙ ap (λ k. score_of k c.state-state.result.now) made
    ∙ ap (score_of cave) state in
    let most = c.max_score.ensures ∙ ap max_score_of made in
    let turns = c.ticks.ensures ∙ ap (ticks held.ticks) c.lines.ensures.lines in
    let place = c.number.ensures.value ∙ ap (λ s. s.trail.here) state in
    let ending = ap (λ s. s.ending) state in
    standing-same _ _ _ _ _ _ _ _ _ _ score most turns place ending
    ∙ standing-played cave cave held.game _ _ held.ticks held.state refl
    c.state-state.ensures.plays
