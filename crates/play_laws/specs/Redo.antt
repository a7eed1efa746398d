-- What takes edits back is taken back itself.
use Rattle.std.specs.Prelude.{◌≡◌, ℕ, Bool, true, List, None}
use Rattle.std.specs.Str.Lines.{lines}
use Rattle.cave_data.specs.CaveView.{CaveView}
use Rattle.play_laws.specs.Bytes.{EndsAlike}
use Rattle.play_edits.specs.Views.{IsEndedEdit}
use Rattle.cave_play.specs.Stages.{large_seed, log_fault}
use Rattle.play_edits.specs.Edits.{ending_refusal}
use Rattle.play_command.specs.declared.views.EditView.TheVariants as asked
use Rattle.play_edits.specs.Items.{game_after_items}
use Rattle.replay_edits.specs.Edit.{Game, game_of}
use Rattle.replay_scripts.specs.Script.{Applied}

-- A game accepts items again, and they give what other items gave. The log that is printed of it
-- has the lines of the one that was printed then.
pub record IsRedone (game : Game) (items again : List Applied) (edited printed : List ℕ) : Type 0
  where
    pub accepted : ending_refusal true again game ≡ None
    pub same : game_after_items again game ≡ game_after_items items game
    pub lines_are : lines printed ≡ lines edited

-- A log is edited, the edited log by the script that takes the edits back, and the log that this
-- gives, with the seed of the first, by the script that takes that back. Then the edits are done
-- again: by bytes, if the script that took them back gave the bytes of the log.
abbrev pub RedoGivesTheEdits : Type 0
RedoGivesTheEdits =
    (cave : CaveView) (every : ℕ) (log script edited undo back redo again : List ℕ)
    (seed next first second third fourth fifth : ℕ) (guarded : Bool)
    → log_fault log ≡ None → large_seed seed ≡ None
    → (edits : IsEndedEdit asked.Log cave every log seed guarded script first edited)
    → IsEndedEdit asked.Undo cave every log seed guarded script second undo
    → next ≡ (game_after_items edits.edit.items (game_of seed (lines log))).seed
    → IsEndedEdit asked.Log cave every edited next guarded undo third back
    → IsEndedEdit asked.Undo cave every edited next guarded undo fourth redo
    → (redone : IsEndedEdit asked.Log cave every back seed guarded redo fifth again)
    → (lines back ≡ lines log)
    × IsRedone (game_of seed (lines log)) edits.edit.items redone.edit.items edited again
    × (EndsAlike log → back ≡ log → again ≡ edited)
