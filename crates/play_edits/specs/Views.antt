-- What an edit of a log writes, by the view, and what it makes beside that.
use Rattle.std.specs.Prelude.{◌≡◌, ℕ, Bool, true, List, [], ◌++◌, length, Option, None, Some}
use Rattle.std.specs.Prelude.{Result, Ok, Err}
use Rattle.std.specs.List.{sum_by}
use Rattle.std.specs.Str.Lines.{lines}
use Rattle.cave_data.specs.CaveView.{CaveView}
use Rattle.cave_replay.specs.LogText.{log_text}
use Rattle.play_command.specs.Asked.{edit_view_of}
use Rattle.play_command.specs.declared.views.ReportView.{ReportView}
use Rattle.play_command.specs.declared.views.EditView.{EditView}
use Rattle.play_edits.specs.Accounts.{accounts, table_text}
use Rattle.play_edits.specs.Edits.{ending_refusal}
use Rattle.play_edits.specs.Ends.{EndsOfLog, printed_text, ends_after_items, log_ends}
use Rattle.play_edits.specs.Undo.{guarded_text, undo_text}
use Rattle.play_edits.specs.Items.{game_after_items, refusals, reports}
use Rattle.play_edits.specs.Outcome.{AreOutcomes, ItemOutcome, played_in}
use Rattle.play_edits.specs.declared.items.MadeEdit.{MadeEdit}
use Rattle.play_edits.specs.declared.refusal.Refusal.{Refusal}
use Rattle.play_machine.specs.FinalState.{final_state_text, score_text}
use Rattle.play_machine.specs.Moments.{steps_text, walk_text}
use Rattle.play_machine.specs.Transcript.{play_text}
use Rattle.replay_checkpoints.specs.Spacing.{IsSpaced}
use Rattle.replay_edits.specs.Edit.{Game, game_of}
use Rattle.replay_scripts.specs.Guards.{IsScriptBy, script_by}
use Rattle.replay_scripts.specs.Script.{Applied}
use Rattle.replay_scripts.specs.declared.fault.ScriptRefusal.{ScriptRefusal}

-- ---- the edited log

-- the text is the log of the game, and reads back as that log
pub record IsLogOf (game : Game) (text : List ℕ) : Type 0 where
  pub written : text ≡ log_text game.log
  pub reads_back : lines text ≡ game.log

-- ---- what takes the items back

-- The text is the script that takes back items that were applied to the game: the items that it
-- spells are all accepted in the game that those leave, with all their guards, and give the old
-- one.
pub record IsUndo (guarded : Bool) (items : List Applied) (game : Game) (text : List ℕ) : Type 0
  where
    pub written : text ≡ undo_text guarded items game
    pub backs : List Applied
    pub spelled : IsScriptBy guarded text backs
    pub accepted : ending_refusal true backs (game_after_items items game) ≡ None
    pub back : game_after_items backs (game_after_items items game) ≡ game

-- ---- the script with guards

-- The text is the script of the items that the game accepts, each edit with a guard of the line at
-- its place: the items that it spells are all accepted in the game, with all their guards, and give
-- what the items give.
pub record IsGuarded (items : List Applied) (game : Game) (text : List ℕ) : Type 0 where
  pub written : text ≡ guarded_text items game
  pub again : List Applied
  pub spelled : IsScriptBy true text again
  pub accepted : ending_refusal true again game ≡ None
  pub same : game_after_items again game ≡ game_after_items items game

-- ---- what is written

-- the text is what the view asks for of the items that edit the game in the cave, by their outcomes
abbrev pub IsViewOf : EditView → CaveView → Game → Bool → List Applied → List ItemOutcome → List ℕ
    → Type 0
IsViewOf EditView.Transcript cave game guarded items outcomes text =
    text ≡ reports items game ++ play_text cave (game_after_items items game)
IsViewOf EditView.Play cave game guarded items outcomes text =
    text ≡ play_text cave (game_after_items items game)
IsViewOf EditView.Log cave game guarded items outcomes text =
    IsLogOf (game_after_items items game) text
IsViewOf EditView.Undo cave game guarded items outcomes text = IsUndo guarded items game text
IsViewOf EditView.Guarded cave game guarded items outcomes text = IsGuarded items game text
IsViewOf EditView.Reports cave game guarded items outcomes text =
    text ≡ accounts cave items game outcomes
IsViewOf EditView.Table cave game guarded items outcomes text =
    text ≡ table_text cave items game outcomes
IsViewOf EditView.Steps cave game guarded items outcomes text =
    text ≡ steps_text cave (game_after_items items game)
IsViewOf EditView.Walk cave game guarded items outcomes text =
    text ≡ walk_text cave (game_after_items items game)
IsViewOf EditView.Score cave game guarded items outcomes text =
    text ≡ score_text cave (game_after_items items game)
IsViewOf EditView.FinalState cave game guarded items outcomes text =
    text ≡ final_state_text cave (game_after_items items game)

-- The script, some of whose lines may be guards, edits the game, whose play was opened with
-- checkpoints at this distance. This many lines were played for its items: the sum of what was
-- played for each, which is within the bound of its replay. The text is what the view prints of
-- them.
pub record IsEditOf (view : EditView) (cave : CaveView) (every : ℕ) (game : Game) (guarded : Bool)
    (script : List ℕ) (played : ℕ) (text : List ℕ) : Type 0 where
  pub items : List Applied
  pub spelled : IsScriptBy guarded script items
  pub checkpoints : List ℕ
  pub spaced : IsSpaced every checkpoints (length game.log)
  pub outcomes : List ItemOutcome
  pub came : AreOutcomes cave every items game checkpoints outcomes
  pub played_is : played ≡ sum_by played_in outcomes
  pub written : IsViewOf view cave game guarded items outcomes text

-- ---- what is printed

-- the script edits the game, whose lines end like this before it, and this is printed
pub record IsEndedEditOf (view : EditView) (cave : CaveView) (every : ℕ) (game : Game)
    (guarded : Bool) (script : List ℕ) (before : EndsOfLog) (played : ℕ) (output : List ℕ)
    : Type 0 where
  pub text : List ℕ
  pub edit : IsEditOf view cave every game guarded script played text
  pub printed : output ≡ printed_text (Some view) (ends_after_items edit.items game before) text

-- this many lines were played for the items of the script that edits the log, and this is printed
abbrev pub IsEndedEdit : EditView → CaveView → ℕ → List ℕ → ℕ → Bool → List ℕ → ℕ → List ℕ → Type 0
IsEndedEdit view cave every log seed guarded script played output =
    IsEndedEditOf view cave every (game_of seed (lines log)) guarded script (log_ends log script)
    played output

-- the log, or the script that takes items back or has them with guards, that is printed of a game
abbrev pub text_to_read : EditView → Bool → List Applied → Game → List ℕ
text_to_read EditView.Log guarded items game = log_text (game_after_items items game).log
text_to_read EditView.Undo guarded items game = undo_text guarded items game
text_to_read EditView.Guarded guarded items game = guarded_text items game
text_to_read _ guarded items game = []

-- ---- what is made beside it

-- the refusals of the items of a script, if it spells some
abbrev pub refusals_of : Game → Result (List Applied) ScriptRefusal → List Refusal
refusals_of game (Ok items) = refusals items game
refusals_of game (Err refused) = []

abbrev pub refusals_by : Bool → List ℕ → Game → List Refusal
refusals_by guarded script game = refusals_of game (script_by guarded script)

-- the seed of the game that the items of a script leave, if it spells some
abbrev pub seed_after : Game → Result (List Applied) ScriptRefusal → ℕ
seed_after game (Ok items) = (game_after_items items game).seed
seed_after game (Err refused) = game.seed

abbrev pub seed_by : Bool → List ℕ → Game → ℕ
seed_by guarded script game = seed_after game (script_by guarded script)

-- the report on what the script makes of the game is what the view that prints it alone asks for
abbrev pub IsSideReportOf : Option ReportView → CaveView → ℕ → Game → Bool → List ℕ → ℕ → List ℕ
    → Type 0
IsSideReportOf None cave every game guarded script played text = text ≡ []
IsSideReportOf (Some view) cave every game guarded script played text =
    IsEditOf (edit_view_of view) cave every game guarded script played text

-- this is what the script makes of the game, whose lines end like this before it
abbrev pub IsMadeOf : EditView → Option ReportView → CaveView → ℕ → Game → Bool → List ℕ → EndsOfLog
    → MadeEdit → Type 0
IsMadeOf view report cave every game guarded script before made =
    IsEndedEditOf view cave every game guarded script before made.run.played made.text.items
    × (made.run.refused.items ≡ refusals_by guarded script game)
    × IsSideReportOf report cave every game guarded script made.run.played made.run.report.items
    × (made.run.seed ≡ seed_by guarded script game)
