-- What a session shows, and what its calls say of it.
use Rattle.std.specs.Prelude.{◌≡◌, ℕ, Bool, List, Option, map}
use Rattle.cave_replay.specs.declared.playthrough.Playthrough.{Playthrough}
use Rattle.cave_replay.specs.Play.{MachineRules, IsPlay}
use Rattle.replay_edits.specs.Edit.{Game, Change}
use Rattle.cave_replay.specs.Playthrough.{kept_game}
use Rattle.cave_replay.specs.Report.{IsReport}

-- what a session shows: its machine, the game, the distance of its checkpoints, and the play of the
-- game
pub record SessionView (Machine Piece State : Type 0) : Type 0 where
  pub machine : Machine
  pub game : Game
  pub every : ℕ
  pub opening : Piece
  pub pieces : List Piece
  pub ticks : List Bool
  pub state : State
  pub checkpoints : List ℕ

-- what a session with this machine shows of what it keeps
abbrev pub session_view : {Machine Kept Scratch State Piece Meter : Type 0}
    → Machine → Playthrough Machine Kept Scratch State Piece Meter → SessionView Machine Piece State
session_view machine kept = record {
  machine = machine;
  game = kept_game kept;
  every = kept.checkpoints.every;
  opening = kept.opening;
  pieces = kept.pieces.items;
  ticks = kept.ticked.each.items;
  state = kept.state;
  checkpoints = kept.checkpoints.places;
}

-- the session holds the play of the held game, by what its pieces say and its state means
abbrev pub HoldsPlay : {M P S Text Meaning : Type 0}
    → (M → MachineRules Meaning Text) → (P → Text) → (S → Meaning) → SessionView M P S → Type 0
HoldsPlay rules text meaning held =
    IsPlay (rules held.machine) held.game (text held.opening) (map text held.pieces) held.ticks
    (meaning held.state)

-- the machine and the distance of checkpoints haven't changed
pub record KeepsSettings {M P S : Type 0} (old new : SessionView M P S) : Type 0 where
  pub machine : new.machine ≡ old.machine
  pub every : new.every ≡ old.every

-- what is reported of changes of the game that a session held
abbrev pub IsReportOn : {M P S Text Meaning : Type 0}
    → MachineRules Meaning Text → List Change → SessionView M P S → ℕ → Option ℕ → ℕ → Type 0
IsReportOn rules changes held from met played =
    IsReport rules changes held.game held.every held.checkpoints from met played
