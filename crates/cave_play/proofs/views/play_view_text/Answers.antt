use Rattle.cave_play.proofs.SourceLemmas.{stays}
use Rattle.std.proofs.Common.{[], ◌∷◌, ◌++◌, ap, sym, ◌∙◌}
use Rattle.std.proofs.lemmas.Result.{err_from_is_err_and}
use Rattle.std.specs.Str.Lines.{lines}
use Rattle.cave_play.specs.Output.{play_view_text}
use Rattle.cave_play.specs.Sources.{next_log}
use Rattle.cave_play.specs.Stages.{log_stage}
use Rattle.cave_play.proofs.InputLemmas.{Says-some}
use Rattle.cave_play.proofs.StageLemmas.{IsFoundIn-memory}
use Rattle.play_machine.proofs.WatchedLemmas.{final_state-ended, play_text-watched}
use Rattle.play_machine.proofs.WatchedLemmas.{score_text-ended, steps_text-watched}
use Rattle.play_machine.proofs.WatchedLemmas.{walk_text-watched}
use Rattle.replay_edits.specs.Edit.{game_of}
use Rattle.turn_ends.specs.Score.{max_score_of, score_of}
use Rattle.play_machine.specs.FinalState.{state_text_after}
use Rattle.play_machine.specs.Transcript.{last_line}
use Rattle.play_tables.specs.ScoreTable.{score_table}
use Rattle.cave_play.proofs.views.play_view_text.Goals as goal

pub returns-in_err-lexicon : goal.returns-in_err-lexicon
returns-in_err-lexicon g c =
    let exit = err_from_is_err_and c.from_residual.result c.from_residual.ensures.1 in
    let (bytes, said) = Says-some (next_log (g.I.Sources.held c.args.inputs.now).logs) in
    rw (exit.1, exit.2)
    (record {
      judged = (bytes, said, IsFoundIn-memory (log_stage bytes ∷ []));
      leads = stays g.I.Sources.Reads _;
    })

pub returns-in-Transcript : goal.returns-in-Transcript
returns-in-Transcript g c =
    let (moves, said, played) = c.in_ok-end-in-Transcript.ensures.judged in
    let cave = c.new-machine.result.rules.cave.now in
    let game = game_of c.args.seed (lines moves) in
    let end = c.in_ok-end-in-Transcript.end in
    let last = last_line (score_of cave end.state) (max_score_of cave) end.turns in
    let text = c.in_ok-push_play_end-in-Transcript.ensures
    ∙ ap (λ t. t ++ last) (played.1.0 [] c.new-text.ensures.items)
    ∙ play_text-watched cave game end played.1.1
    ∙ (λ i. play_view_text (sym c.in-Transcript.is i) (c.new-machine.ensures i) game) in
    record { judged = (moves, said, (played.0, text)); leads = c.in_ok-end-in-Transcript.ensures.leads }

pub returns-in-Steps : goal.returns-in-Steps
returns-in-Steps g c =
    let (moves, said, played) = c.in_ok-watch_play-in-Steps.ensures.judged in
    let cave = c.new-machine.result.rules.cave.now in
    let game = game_of c.args.seed (lines moves) in
    let text = played.1.0 [] c.new-text.ensures.items ∙ steps_text-watched cave game
    ∙ (λ i. play_view_text (sym c.in-Steps.is i) (c.new-machine.ensures i) game) in
    record { judged = (moves, said, (played.0, text)); leads = c.in_ok-watch_play-in-Steps.ensures.leads }

pub returns-in-Walk : goal.returns-in-Walk
returns-in-Walk g c =
    let (moves, said, played) = c.in_ok-watch_play-in-Walk.ensures.judged in
    let cave = c.new-machine.result.rules.cave.now in
    let game = game_of c.args.seed (lines moves) in
    let begun = c.after-walk.ensures ∙ c.new-text.ensures.items in
    let text = played.1.0 [] begun ∙ walk_text-watched cave game
    ∙ (λ i. play_view_text (sym c.in-Walk.is i) (c.new-machine.ensures i) game) in
    record { judged = (moves, said, (played.0, text)); leads = c.in_ok-watch_play-in-Walk.ensures.leads }

pub returns-in-Score : goal.returns-in-Score
returns-in-Score g c =
    let (moves, said, played) = c.in_ok-end-in-Score.ensures.judged in
    let cave = c.new-machine.result.rules.cave.now in
    let game = game_of c.args.seed (lines moves) in
    let end = c.in_ok-end-in-Score.end in
    let text = c.in_ok-push_score_table-in-Score.ensures.told
    ∙ (λ i. c.new-text.ensures.items i ++ score_table (c.rules.ensures i) end.state)
    ∙ score_text-ended cave game end played.1.1
    ∙ (λ i. play_view_text (sym c.in-Score.is i) (c.new-machine.ensures i) game) in
    record { judged = (moves, said, (played.0, text)); leads = c.in_ok-end-in-Score.ensures.leads }

pub returns : goal.returns
returns g c =
    let (moves, said, played) = c.in_ok-end-in-FinalState.ensures.judged in
    let cave = c.new-machine.result.rules.cave.now in
    let game = game_of c.args.seed (lines moves) in
    let end = c.in_ok-end-in-FinalState.end in
    let text = c.in_ok-push_state_after-in-FinalState.ensures
    ∙ ap (λ t. t ++ state_text_after cave end.turns end.state) c.new-text.ensures.items
    ∙ final_state-ended cave game end played.1.1
    ∙ (λ i. play_view_text (sym c.in-FinalState.is i) (c.new-machine.ensures i) game) in
    record { judged = (moves, said, (played.0, text)); leads = c.in_ok-end-in-FinalState.ensures.leads }
