-- The states of a play.
use Rattle.std.specs.Prelude.{ℕ}
use Rattle.play_machine.specs.Machine.{cave_rules}
use Rattle.cave_data.specs.CaveView.{CaveView}
use Rattle.cave_replay.specs.Agreement.{state_at}
use Rattle.cave_world.specs.declared.state.State.{State}
use Rattle.replay_edits.specs.Edit.{Game}
use Rattle.turn_laws.specs.Reachable.{IsLawful, IsReachable}

-- a game reaches the state, and it is lawful
pub record IsOfAGame (cave : CaveView) (s : State) : Type 0 where
  pub reachable : IsReachable cave s
  pub lawful : IsLawful cave s

-- a game reaches the state at its start and that after each of its lines, and they are lawful
abbrev pub EachIsOfAGame : CaveView → Game → Type 0
EachIsOfAGame cave game = (place : ℕ) → IsOfAGame cave (state_at (cave_rules cave) game place)
