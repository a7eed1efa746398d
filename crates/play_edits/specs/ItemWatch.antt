-- What a view prints of items that are applied to a game, and what it keeps for that. If there is no
-- view, nothing is printed.
use Rattle.std.specs.Prelude.{ℕ, Bool, true, false, List, [], ◌++◌, reverse, Option, None, Some}
use Rattle.std.specs.Prelude.{if◌then◌else◌}
use Rattle.cave_data.specs.CaveView.{CaveView}
use Rattle.cave_replay.specs.LogText.{log_text}
use Rattle.cave_world.specs.declared.state.State.{State}
use Rattle.play_command.specs.declared.views.EditView.{EditView}
use Rattle.play_edits.specs.Accounts.{account_by, text_of_items, totals_line, last_state, row_by}
use Rattle.play_edits.specs.Undo.{back_by, backs_of, guarded_group, text_if_done}
use Rattle.play_edits.specs.Items.{game_after_item, game_after_items, item_report_by}
use Rattle.play_edits.specs.Outcome.{ItemOutcome, lines_in, played_in, refusal_in, standing_of}
use Rattle.play_machine.specs.FinalState.{final_state_text, score_text}
use Rattle.play_machine.specs.Moments.{steps_text, walk_text}
use Rattle.play_machine.specs.Transcript.{play_text}
use Rattle.play_tables.specs.ItemRow.{item_head_row}
use Rattle.replay_edits.specs.Edit.{Game}
use Rattle.replay_scripts.specs.Script.{Applied}
use Rattle.replay_scripts.specs.ScriptText.{Back, script_text}
use Rattle.std.specs.List.{sum_by}

-- before all items
abbrev pub text_at_start : Option EditView → List ℕ
text_at_start (Some EditView.Table) = item_head_row
text_at_start _ = []

-- what it keeps of the game before an item: the state, for the row of the item in a table
abbrev pub state_before : Option EditView → CaveView → Game → Option State
state_before (Some EditView.Table) cave game = Some (last_state cave game)
state_before _ cave game = None

-- or the item with guards of the log
abbrev pub guarded_before : Option EditView → Applied → Game → List ℕ
guarded_before (Some EditView.Guarded) item game = guarded_group item.changes game.log
guarded_before _ item game = []

-- what it writes of the item by that, if this is the game after it
abbrev pub text_after : Option EditView → CaveView → Applied → ItemOutcome → Option State → List ℕ
    → Game → List ℕ
text_after (Some EditView.Transcript) cave item outcome state guarded game =
    item_report_by item (refusal_in outcome)
text_after (Some EditView.Guarded) cave item outcome state guarded game = text_if_done outcome guarded
text_after (Some EditView.Reports) cave item outcome state guarded game =
    account_by item outcome (standing_of cave game)
text_after (Some EditView.Table) cave item outcome (Some before) guarded game =
    row_by item outcome before (standing_of cave game) (last_state cave game)
text_after _ cave item outcome state guarded game = []

abbrev pub text_of_item : Option EditView → CaveView → Applied → Game → ItemOutcome → List ℕ
text_of_item view cave item game outcome = text_after view cave item outcome
    (state_before view cave game) (guarded_before view item game) (game_after_item item game)

-- what takes items back is kept if the view prints it
abbrev pub asks_backs : Option EditView → Bool
asks_backs (Some EditView.Undo) = true
asks_backs _ = false

abbrev pub if_asked : Option EditView → List (List Back) → List (List Back)
if_asked view backs = if asks_backs view then backs else []

-- that of an item, if the log after it is this one
abbrev pub backs_after : Option EditView → Bool → ItemOutcome → List (List ℕ) → List (List Back)
backs_after view guarded outcome log = if_asked view (back_by guarded outcome log)

-- after all items, if they leave this game, this many lines were played for them instead of so
-- many, and these changes take them back
abbrev pub text_at_end : Option EditView → CaveView → Game → ℕ → ℕ → List (List Back) → List ℕ
text_at_end (Some EditView.Transcript) cave game played lines backs = play_text cave game
text_at_end (Some EditView.Play) cave game played lines backs = play_text cave game
text_at_end (Some EditView.Log) cave game played lines backs = log_text game.log
text_at_end (Some EditView.Undo) cave game played lines backs = script_text backs
text_at_end (Some EditView.Reports) cave game played lines backs = totals_line played lines
text_at_end (Some EditView.Steps) cave game played lines backs = steps_text cave game
text_at_end (Some EditView.Walk) cave game played lines backs = walk_text cave game
text_at_end (Some EditView.Score) cave game played lines backs = score_text cave game
text_at_end (Some EditView.FinalState) cave game played lines backs = final_state_text cave game
text_at_end _ cave game played lines backs = []

-- all that it writes; the items are taken back from the last one to the first
abbrev pub view_text : Option EditView → Bool → CaveView → List Applied → Game → List ItemOutcome
    → List ℕ
view_text view guarded cave items game outcomes =
    text_at_start view ++ (text_of_items (text_of_item view cave) items game outcomes
    ++ text_at_end view cave (game_after_items items game) (sum_by played_in outcomes)
    (sum_by lines_in outcomes) (reverse (if_asked view (backs_of guarded items game))))
