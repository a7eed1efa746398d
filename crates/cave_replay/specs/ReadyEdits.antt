-- Accepted edits, and what is known of them before anything is replayed.
use Rattle.std.specs.Prelude.{◌≡◌, ℕ, ◌+◌, ◌-◌, ◌≤◌, List, [], length, None, vec_len, vec_capacity}
use Rattle.replay_edits.specs.LineText.{LineText}
use Rattle.cave_replay.specs.declared.ready_edits.ReadyEdits.{ReadyEdits}
use Rattle.cave_replay.specs.declared.segment.OldPlay.{OldPlay}
use Rattle.cave_replay.specs.declared.segment.Segment.{Segment}
use Rattle.cave_replay.specs.declared.playthrough.Playthrough.{Playthrough}
use Rattle.cave_replay.specs.declared.replay.Rerun.{Rerun}
use Rattle.replay_checkpoints.specs.Marks.{MarksView}
use Rattle.cave_replay.specs.Play.{MachineRules}
use Rattle.replay_edits.specs.Edit.{Game, game_of, log_of, IsGame, margins_of, Change, changes_of}
use Rattle.replay_edits.specs.Edit.{apply_all, inverses_of}
use Rattle.cave_replay.specs.Playthrough.{kept_game}
use Rattle.cave_replay.specs.Replay.{Revision, IsShift, MayBegin, IsPlayedOn, IsRerun}
use Rattle.cave_replay.specs.Replay.{revision_to, segment_view, rerun_view}
use Rattle.replay_edits.specs.Faults.{fault_of_all}
use Rattle.replay_edits.specs.Outcome.{log_with, AreRising}

-- the log with the lines of the edits in the place of those between `head` and `rest`
abbrev pub log_after_edits : ReadyEdits → List (List ℕ) → List (List ℕ)
log_after_edits ready log = log_with log ready.head ready.rest ready.middle.items

abbrev pub new_game : ReadyEdits → List (List ℕ) → Game
new_game ready log = game_of ready.seed (log_after_edits ready log)

abbrev pub ready_revision : {Kept State S T : Type 0} → MachineRules S T → OldPlay Kept State
    → ReadyEdits
    → Revision S T
ready_revision rules old ready = record {
  rules = rules;
  old = game_of old.seed (log_of old.log.now.items);
  new = new_game ready (log_of old.log.now.items);
  head = ready.head;
  tail = length old.log.now.items - ready.rest;
}

abbrev pub MayReplay : {Kept State S T : Type 0} → (State → S) → (State → Type 0) → MachineRules S T
    → OldPlay Kept State → ReadyEdits → MarksView State → Type 0
MayReplay meaning is_state rules old ready marks =
    MayBegin meaning is_state (ready_revision rules old ready) old.checkpoints.now marks

abbrev pub IsReplayed : {Machine Kept Scratch State Piece Meter S T : Type 0} → (State → S)
    → (State → Type 0) → (Piece → T) → MachineRules S T → OldPlay Kept State → ReadyEdits
    → MarksView State → Segment Machine Kept Scratch State Piece Meter → Type 0
IsReplayed meaning is_state text rules old ready marks played =
    IsPlayedOn meaning is_state (ready_revision rules old ready) old.checkpoints.now.places marks
    (segment_view text played)

abbrev pub IsRerunOf : {Machine Kept Scratch State Piece Meter S T : Type 0} → (State → S)
    → (State → Type 0) → (Piece → T) → MachineRules S T → List Change
    → Playthrough Machine Kept Scratch State Piece Meter
    → Rerun Machine Kept Scratch State Piece Meter → Type 0
IsRerunOf meaning is_state text rules changes kept rerun =
    let old = kept_game kept in
    let revision = revision_to rules changes old (new_game rerun.ready old.log) in
    IsRerun meaning is_state revision kept.checkpoints (rerun_view text rerun)

-- The lines between those that stay can be put there: the old ones among them ascend, between
-- `head` and `rest`, and there is room for all.
pub record MayMove (ready : ReadyEdits) : Type 0 where
  pub rising : AreRising ready.head ready.rest ready.middle.items
  pub empty : ready.room.items ≡ []
  pub room : vec_len ready.middle ≤ vec_capacity ready.room

-- The edits may be made in a game: they leave one that a session may hold, of this many lines. Its
-- lines before `head` are those of the log, and its last lines are those of the log from `rest` on;
-- `head` is 0 if the seed is another.
pub record IsReady (seed : ℕ) (log : List LineText) (ready : ReadyEdits) : Type 0 where
  pub moves : MayMove ready
  pub lines : ready.lines ≡ length (log_after_edits ready (log_of log))
  pub ordered : ready.head ≤ ready.rest
  pub within : ready.rest ≤ length log
  pub shift : IsShift (game_of seed (log_of log)) (new_game ready (log_of log)) ready.head
      (length log - ready.rest)
  pub good : IsGame (new_game ready (log_of log))

-- They are these changes of a game, which meet no fault and leave its new game, and they have what
-- takes these back; `head` and `rest` bound the lines that the changes don't leave alone.
pub record AreEditsOf (changes : List Change) (seed : ℕ) (log : List LineText)
    (ready : ReadyEdits) : Type 0 where
  pub accepted : fault_of_all changes (log_of log) 0 ≡ None
  pub moves : MayMove ready
  pub game : new_game ready (log_of log) ≡ apply_all changes (game_of seed (log_of log))
  pub inverse : changes_of ready.inverse.items ≡ inverses_of changes (game_of seed (log_of log))
  pub ordered : ready.head ≤ ready.rest
  pub head : ready.head ≡ (margins_of changes (log_of log)).head
  pub tail : ready.rest + (margins_of changes (log_of log)).tail ≡ length log
