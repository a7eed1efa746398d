-- What a session keeps: a game, its play, and the states at its checkpoints.
use Rattle.std.specs.Prelude.{◌≡◌, ℕ, ◌<◌, ◌≤◌, Bool, List, length, map}
use Rattle.replay_checkpoints.specs.Marks.{CheckpointsView}
use Rattle.cave_replay.specs.declared.playthrough.Playthrough.{Playthrough}
use Rattle.cave_replay.specs.Play.{MachineRules, IsPlay}
use Rattle.replay_edits.specs.Edit.{Game, game_of, log_of, IsGame}
use Rattle.cave_replay.specs.Agreement.{state_at}
use Rattle.cave_replay.specs.Replay.{AreStates}
use Rattle.base_lines.specs.Limits.{MAX_EVERY}

-- a distance that checkpoints may have
pub record IsDistance (every : ℕ) : Type 0 where
  pub some : 0 < every
  pub few : every ≤ MAX_EVERY

-- a game that a session may hold, with its play and the states at its checkpoints
pub record IsPlaythrough {State S T : Type 0} (meaning : State → S) (is_state : State → Type 0)
    (rules : MachineRules S T) (game : Game) (opening : T) (pieces : List T) (ticks : List Bool)
    (state : State) (checkpoints : CheckpointsView State) : Type 0 where
  pub game_is : IsGame game
  pub every_is : IsDistance checkpoints.every
  pub plays : IsPlay rules game opening pieces ticks (meaning state)
  pub made : is_state state
  pub lines : checkpoints.lines ≡ length game.log
  pub states : AreStates meaning is_state (state_at rules game) checkpoints.places
      checkpoints.states

abbrev pub kept_game : {Machine Kept Scratch State Piece Meter : Type 0}
    → Playthrough Machine Kept Scratch State Piece Meter → Game
kept_game kept = game_of kept.seed (log_of kept.log.items)

-- What is kept is the play of the kept game, with the states at its checkpoints; the game and their
-- distance are valid.
abbrev pub KeepsPlay : {Machine Kept Scratch State Piece Meter Meaning Text : Type 0}
    → (State → Meaning) → (State → Type 0) → (Piece → Text) → MachineRules Meaning Text
    → Playthrough Machine Kept Scratch State Piece Meter → Type 0
KeepsPlay meaning is_state text rules kept =
    IsPlaythrough meaning is_state rules (kept_game kept) (text kept.opening)
    (map text kept.pieces.items) kept.ticked.each.items kept.state kept.checkpoints

-- A copy keeps the same, by what the pieces say.
pub record IsCopyOf {Machine Kept Scratch State Piece Meter T : Type 0} (text : Piece → T)
    (kept copy : Playthrough Machine Kept Scratch State Piece Meter) : Type 0 where
  pub seed : copy.seed ≡ kept.seed
  pub log : log_of copy.log.items ≡ log_of kept.log.items
  pub opening : text copy.opening ≡ text kept.opening
  pub pieces : map text copy.pieces.items ≡ map text kept.pieces.items
  pub ticked : copy.ticked.each.items ≡ kept.ticked.each.items
  pub every : copy.checkpoints.every ≡ kept.checkpoints.every
  pub lines : copy.checkpoints.lines ≡ kept.checkpoints.lines
  pub places : copy.checkpoints.places ≡ kept.checkpoints.places
  pub states : copy.checkpoints.states ≡ kept.checkpoints.states
  pub state : copy.state ≡ kept.state

-- Only capacity has changed: all that is kept is as it was.
pub record KeepsAll {Machine Kept Scratch State Piece Meter : Type 0}
    (old new : Playthrough Machine Kept Scratch State Piece Meter) : Type 0 where
  pub seed : new.seed ≡ old.seed
  pub log : new.log.items ≡ old.log.items
  pub opening : new.opening ≡ old.opening
  pub pieces : new.pieces.items ≡ old.pieces.items
  pub ticked : new.ticked.each.items ≡ old.ticked.each.items
  pub every : new.checkpoints.every ≡ old.checkpoints.every
  pub lines : new.checkpoints.lines ≡ old.checkpoints.lines
  pub places : new.checkpoints.places ≡ old.checkpoints.places
  pub states : new.checkpoints.states ≡ old.checkpoints.states
  pub state : new.state ≡ old.state
