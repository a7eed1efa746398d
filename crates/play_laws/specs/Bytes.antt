-- What is printed of an edited log and of the script that takes the edits back can be read again,
-- and gives the bytes of the log back.
use Rattle.std.specs.Prelude.{◌≡◌, ◌≤◌, ℕ, Bool, true, List, [], length, None}
use Rattle.std.specs.Str.Lines.{lines}
use Rattle.base_lines.specs.Limits.{MAX_INPUT_BYTES}
use Rattle.cave_data.specs.CaveView.{CaveView}
use Rattle.play_command.specs.declared.views.EditView.TheVariants as asked
use Rattle.play_edits.specs.Items.{game_after_items}
use Rattle.replay_edits.specs.Edit.{game_of}
use Rattle.play_edits.specs.Ends.{with_line_ends, is_unended}
use Rattle.play_edits.specs.declared.ends.LineEnd.{LineEnd}
use Rattle.replay_scripts.specs.Guards.{IsScriptBy}
use Rattle.replay_scripts.specs.Script.{Applied}
use Rattle.play_edits.specs.Views.{IsEndedEdit}
use Rattle.cave_play.specs.Stages.{large_seed, log_fault, script_fault}
use Rattle.play_edits.specs.Edits.{ending_refusal}

-- an edited log that is printed has the lines of the edited game, and is accepted unless it is too
-- large
pub record IsReadAgain (log : List (List ℕ)) (text : List ℕ) : Type 0 where
  pub lines_are : lines text ≡ log
  pub fault : length text ≤ MAX_INPUT_BYTES → log_fault text ≡ None

abbrev pub EditedLogsAreAccepted : Type 0
EditedLogsAreAccepted =
    (cave : CaveView) (every : ℕ) (log script edited : List ℕ) (seed played : ℕ) (guarded : Bool)
    → log_fault log ≡ None → large_seed seed ≡ None
    → (edit : IsEndedEdit asked.Log cave every log seed guarded script played edited)
    → IsReadAgain (game_after_items edit.edit.items (game_of seed (lines log))).log edited

-- The printed script that takes edits back is accepted unless it is too large, and spells items: in
-- the edited game each is accepted, with each of its guards, and together they give the old game.
pub record GivesBack (guarded : Bool) (items : List Applied) (log : List (List ℕ)) (seed : ℕ)
    (text : List ℕ) : Type 0 where
  pub backs : List Applied
  pub spelled : IsScriptBy guarded text backs
  pub fault : length text ≤ MAX_INPUT_BYTES → script_fault guarded text ≡ None
  pub accepted : ending_refusal true backs (game_after_items items (game_of seed log)) ≡ None
  pub back : game_after_items backs (game_after_items items (game_of seed log))
      ≡ game_of seed log

abbrev pub UndoScriptsTakeBack : Type 0
UndoScriptsTakeBack =
    (cave : CaveView) (every : ℕ) (log script undo : List ℕ) (seed played : ℕ) (guarded : Bool)
    → log_fault log ≡ None → large_seed seed ≡ None
    → (edit : IsEndedEdit asked.Undo cave every log seed guarded script played undo)
    → GivesBack guarded edit.edit.items (lines log) seed undo

-- The printed script with guards is accepted unless it is too large, and spells items: the log
-- accepts each, with each of its guards, and together they give what the edits gave.
pub record GivesSame (items : List Applied) (log : List (List ℕ)) (seed : ℕ) (text : List ℕ)
    : Type 0 where
  pub again : List Applied
  pub spelled : IsScriptBy true text again
  pub fault : length text ≤ MAX_INPUT_BYTES → script_fault true text ≡ None
  pub accepted : ending_refusal true again (game_of seed log) ≡ None
  pub same : game_after_items again (game_of seed log)
      ≡ game_after_items items (game_of seed log)

abbrev pub GuardedScriptsDoTheSame : Type 0
GuardedScriptsDoTheSame =
    (cave : CaveView) (every : ℕ) (log script printed : List ℕ) (seed played : ℕ) (guarded : Bool)
    → log_fault log ≡ None → large_seed seed ≡ None
    → (edit : IsEndedEdit asked.Guarded cave every log seed guarded script played printed)
    → GivesSame edit.edit.items (lines log) seed printed

-- all lines of a text end alike, and the last line may have no end
abbrev pub EndsAlike : List ℕ → Type 0
EndsAlike text = (end : LineEnd) × (unended : Bool)
    × (text ≡ with_line_ends end unended [] (lines text))

-- A log whose lines all end alike is edited. Then the script that takes the edits back edits the
-- edited log, with the seed that it has: this gives the bytes of the log. If its last line has no
-- end, the last line of the edited log must have none.
abbrev pub UndoGivesTheBytes : Type 0
UndoGivesTheBytes =
    (cave : CaveView) (every : ℕ) (log script edited undo again : List ℕ)
    (seed next played counted replayed : ℕ) (guarded : Bool)
    → log_fault log ≡ None → large_seed seed ≡ None → EndsAlike log
    → (first : IsEndedEdit asked.Log cave every log seed guarded script played edited)
    → IsEndedEdit asked.Undo cave every log seed guarded script counted undo
    → next ≡ (game_after_items first.edit.items (game_of seed (lines log))).seed
    → (is_unended log ≡ true → is_unended edited ≡ true)
    → IsEndedEdit asked.Log cave every edited next guarded undo replayed again
    → again ≡ log
