use Rattle.std.proofs.Common.{refl, ◌∙◌}
use Rattle.play_edits.proofs.StandingLemmas.{last_state-played}
use Rattle.play_edits.proofs.reports.last_state.Goals as goal

pub returns : goal.returns
returns c =
    let held = c.args.session.now in
    let cave = held.machine.rules.cave.now in
    c.state.ensures.state
    ∙ last_state-played cave cave held.game _ _ _ held.state refl c.state.ensures.plays
