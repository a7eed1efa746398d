-- What a session holds after an item of a script, and what items make of what it held.
use Rattle.std.specs.Prelude.{◌≡◌, Bool, List, Option, None, Some, if◌then◌else◌, slice_get, IfOk}
use Rattle.std.specs.Prelude.{option_map}
use Rattle.std.specs.List.{sum_by}
use Rattle.cave_replay.specs.Session.{SessionView}
use Rattle.cave_world.specs.declared.state.State.{State}
use Rattle.play_command.specs.Asked.{edit_view_of}
use Rattle.play_command.specs.declared.views.ReportView.{ReportView}
use Rattle.play_command.specs.declared.line.Editing.{Editing}
use Rattle.play_edits.specs.Items.{game_after_item, game_after_items, refusals}
use Rattle.play_edits.specs.Ends.{EndsOfLog, printed_text, ends_after_items}
use Rattle.play_edits.specs.Outcome.{AreLeft, AreOutcomes, IsItemOutcome, ItemOutcome, played_in}
use Rattle.play_edits.specs.ItemWatch.{view_text}
use Rattle.play_edits.specs.declared.items.MadeEdit.{MadeEdit}
use Rattle.play_edits.specs.declared.refusal.Refusal.{Refusal}
use Rattle.play_machine.specs.Machine.{HoldsGame, Piece}
use Rattle.play_machine.specs.declared.machine.CaveMachine.{CaveMachine}
use Rattle.replay_edits.specs.Edit.{Game, changes_of}
use Rattle.replay_edits.specs.Faults.{fault_of_all}
use Rattle.replay_scripts.specs.Script.{Applied}

-- an item was applied to what a session held, with this outcome, and what takes it back is accepted
pub record Applies (item : Applied) (old new : SessionView CaveMachine Piece State)
    (outcome : ItemOutcome) : Type 0 where
  pub came : IsItemOutcome old.machine.rules.cave.now old.every item old.game
      old.checkpoints outcome
  pub holds : HoldsGame old.machine.rules.cave.now (game_after_item item old.game) new
  pub every : new.every ≡ old.every
  pub left : AreLeft old.every outcome old.checkpoints new.game new.checkpoints
  pub back_free : IfOk outcome (λ done.
      fault_of_all (changes_of done.inverse.items) new.game.log 0 ≡ None)

-- items were applied to what a session held, over a log whose lines end like this, and this is what
-- they made
pub record IsMade (editing : Editing) (report : Option ReportView) (items : List Applied)
    (old : SessionView CaveMachine Piece State) (ends : EndsOfLog) (made : MadeEdit) : Type 0 where
  pub outcomes : List ItemOutcome
  pub came : AreOutcomes old.machine.rules.cave.now old.every items old.game old.checkpoints
      outcomes
  pub text : made.text.items
      ≡ printed_text (Some editing.view) (ends_after_items items old.game ends)
      (view_text (Some editing.view) editing.guarded old.machine.rules.cave.now items old.game
      outcomes)
  pub reported : made.run.report.items ≡ view_text (option_map edit_view_of report) editing.guarded
      old.machine.rules.cave.now items old.game outcomes
  pub played : made.run.played ≡ sum_by played_in outcomes
  pub refused : made.run.refused.items ≡ refusals items old.game
  pub seed : made.run.seed ≡ (game_after_items items old.game).seed

-- a refusal ends a strict run
abbrev pub if_strict : Bool → Option Refusal → Option Refusal
if_strict strict refusal = if strict then refusal else None

-- the first refusal of items, if it ends the run
abbrev pub ending_refusal : Bool → List Applied → Game → Option Refusal
ending_refusal strict items game = if_strict strict (slice_get (refusals items game) 0)
