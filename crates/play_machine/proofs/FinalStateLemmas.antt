-- The state of a play that a session holds is the one that playing the game leads to.
use Rattle.std.proofs.Common.{◌≡◌, ℕ, Bool, List, length, refl}
use Rattle.turn_ends.specs.Begin.{begun_state, starting_objects}
use Rattle.cave_data.specs.CaveView.{CaveView}
use Rattle.play_machine.specs.FinalState.{final_state_text, state_text_after}
use Rattle.play_machine.specs.Machine.{cave_rules}
use Rattle.play_machine.specs.Transcript.{ticks}
use Rattle.cave_world.specs.declared.part.Part.{Part}
use Rattle.cave_world.specs.declared.state.State.{State}
use Rattle.replay_edits.specs.Edit.{Game}
use Rattle.cave_replay.specs.Play.{IsPlay}

pub begun_objects : (cave : CaveView) (stream : ℕ)
    → (begun_state cave stream).objects ≡ starting_objects cave
unfolding begun_state
begun_objects cave stream = refl

-- so the state of a play of the held game is the one to which playing it leads
pub final_state-played : (cave : CaveView) (game : Game) (opening : List Part)
    (pieces : List (List Part)) (ticked : List Bool) (state : State) (turns : ℕ)
    → turns ≡ ticks ticked (length game.log)
    → IsPlay (cave_rules cave) game opening pieces ticked state
    → state_text_after cave turns state ≡ final_state_text cave game
unfolding final_state_text
final_state-played cave game opening pieces ticked state turns taken played =
    rw (taken, played.ticks_are, played.state_is) refl
