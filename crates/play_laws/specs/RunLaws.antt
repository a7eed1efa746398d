-- Laws about the order in which faults are found and why edits are refused, and the laws that the
-- inputs have at most one output, and that the script of two logs makes the one of the other.
use Rattle.std.specs.Prelude.{◌≡◌, ℕ, ◌⊎◌, ⊤, List, None, Some, Bool}
use Rattle.std.specs.Str.Lines.{lines}
use Rattle.replay_scripts.specs.Script.{Applied}
use Rattle.replay_edits.specs.Edit.{Game, IsGame, game_of}
use Rattle.replay_difference.specs.ScriptTo.{IsScriptTo}
use Rattle.replay_difference.specs.declared.script.ScriptForm.{ScriptForm}
use Rattle.replay_scripts.specs.Guards.{IsScriptBy}
use Rattle.replay_edits.specs.declared.fault.EditFault.{EditFault}
use Rattle.replay_edits.specs.declared.fault.EditFault.TheVariants.{MeterFull, Memory}
use Rattle.replay_edits.specs.declared.fault.GroupFault.{GroupFault}
use Rattle.cave_play.specs.Stages.{inputs_fault, large_seed, log_fault, IsFoundIn, AtMostOne, Stage}
use Rattle.cave_play.specs.Stages.{first_decided, cave_stages}
use Rattle.play_edits.specs.Items.{game_after_items}
use Rattle.cave_play.specs.Output.{IsChecked, IsPlayed, IsEdited}
use Rattle.play_edits.specs.Refusal.{group_refusal}
use Rattle.cave_play.specs.declared.fault.PlayFault.{PlayFault}
use Rattle.play_command.specs.declared.views.EditView.{EditView}
use Rattle.play_command.specs.declared.views.CheckView.{CheckView}
use Rattle.play_command.specs.declared.views.PlayView.{PlayView}

-- a check of a database and its bindings has at most one output
abbrev pub OneCheckedOutput : Type 0
OneCheckedOutput =
    (database bindings : List ℕ) (view : CheckView) → AtMostOne (IsChecked view database bindings)

-- a play, which also has a log and a seed, has at most one for each view
abbrev pub OnePlayedOutput : Type 0
OnePlayedOutput =
    (database bindings log : List ℕ) (seed : ℕ) (view : PlayView)
    → AtMostOne (IsPlayed database bindings log seed view)

-- the view doesn't depend on checkpoints
abbrev pub KnowsNoCheckpoints : EditView → Type 0
KnowsNoCheckpoints EditView.Reports = ⊥
KnowsNoCheckpoints EditView.Table = ⊥
KnowsNoCheckpoints _ = ⊤

-- an edit, which has a log, a script and a seed, has at most one output of the transcript, with
-- reports or without, of the edited log, of what takes it back, of the script with guards, of its
-- lines, its score and the final state, at any distances of checkpoints, whether or not the runs
-- are strict
abbrev pub OneEditedOutput : Type 0
OneEditedOutput =
    (database bindings log script : List ℕ) (seed near far : ℕ) (view : EditView)
    (guarded first second : Bool) (played replayed : ℕ)
    → KnowsNoCheckpoints view
    → (one other : List ℕ)
    → IsEdited database bindings log script
    (record { seed = seed; every = near; view = view; strict = first; guarded = guarded }) played one
    → IsEdited database bindings log script
    (record { seed = seed; every = far; view = view; strict = second; guarded = guarded }) replayed other
    → one ≡ other

-- a fault that no bytes decide
abbrev pub IsFromOutside : PlayFault → Type 0
IsFromOutside (PlayFault.Read from) = ⊤
IsFromOutside PlayFault.Memory = ⊤
IsFromOutside _ = ⊥

-- the fault comes from outside, or is the first that a stage decides
abbrev pub IsDecided : List Stage → PlayFault → Type 0
IsDecided stages found = IsFromOutside found ⊎ (first_decided stages ≡ Some found)

-- each fault that is found is like that
abbrev pub FirstIsFound : Type 0
FirstIsFound =
    (stages : List Stage) (found : PlayFault) → IsFoundIn stages found → IsDecided stages found

-- the fault that is decided first for a cave is the first fault of its database and bindings
abbrev pub CavesAreJudgedWhole : Type 0
CavesAreJudgedWhole =
    (database bindings : List ℕ)
    → first_decided (cave_stages database bindings) ≡ inputs_fault database bindings

-- a fault that a change has in its log, with any meter and any memory
abbrev pub IsOfChange : EditFault → Type 0
IsOfChange MeterFull = ⊥
IsOfChange Memory = ⊥
IsOfChange _ = ⊤

-- in an accepted log, after any items, an item is refused only for its changes
abbrev pub RefusalsAreOfChanges : Type 0
RefusalsAreOfChanges =
    (log : List ℕ) (seed : ℕ) → log_fault log ≡ None → large_seed seed ≡ None
    → (items : List Applied) (item : Applied) (found : GroupFault)
    → group_refusal item.changes (game_after_items items (game_of seed (lines log))).log
    ≡ Some found
    → IsOfChange found.cause

-- a script that makes one log of another leaves that log of a game that has the first, with its seed
abbrev pub DifferencesMakeTheLog : Type 0
DifferencesMakeTheLog =
    (form : ScriptForm) (script : List ℕ) (game : Game) (new : List (List ℕ))
    (items : List Applied) → IsGame game → IsScriptTo form script game.log new
    → IsScriptBy form.guarded script items → game_after_items items game ≡ game_of game.seed new
