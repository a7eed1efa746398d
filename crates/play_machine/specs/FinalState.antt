-- The state to which a play leads.
use Rattle.std.specs.Prelude.{ℕ, List, length}
use Rattle.cave_data.specs.CaveView.{CaveView}
use Rattle.replay_edits.specs.Edit.{Game}
use Rattle.cave_replay.specs.Play.{state_after, ticks_of}
use Rattle.play_tables.specs.ScoreTable.{score_table}
use Rattle.play_machine.specs.Machine.{cave_rules}
use Rattle.cave_world.specs.declared.state.State.{State}
use Rattle.play_state_text.specs.StateText.{state_text}
use Rattle.turn_ends.specs.Begin.{starting_objects}
use Rattle.turn_ends.specs.Score.{score_of}
use Rattle.play_machine.specs.Transcript.{ticks}

-- the table of the state to which playing the game leads, from its first line on
unfoldable pub score_text : CaveView → Game → List ℕ
score_text cave game =
    let rules = cave_rules cave in
    score_table cave (state_after rules (rules.begun game.seed) game.log)

-- the text of the state of a play after this many turns
abbrev pub state_text_after : CaveView → ℕ → State → List ℕ
state_text_after cave turns state =
    state_text cave (starting_objects cave) turns (score_of cave state) state

-- the state to which playing a log in a cave leads, from its first line on
unfoldable pub final_state_text : CaveView → Game → List ℕ
final_state_text cave game =
    let rules = cave_rules cave in
    let begun = rules.begun game.seed in
    state_text_after cave (ticks (ticks_of rules begun game.log) (length game.log))
    (state_after rules begun game.log)
