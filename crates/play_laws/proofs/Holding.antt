-- A play only goes through reachable states.
use Rattle.std.proofs.Common.{◌≡◌, ℕ, List, [], ◌∷◌, refl, sym, ◌∙◌}
use Rattle.std.specs.Prelude.{take}
use Rattle.play_machine.specs.Machine.{cave_rules}
use Rattle.cave_data.specs.CaveView.{CaveView}
use Rattle.cave_replay.specs.Play.{state_after}
use Rattle.cave_world.specs.declared.state.State.{State}
use Rattle.replay_edits.specs.Edit.{Game}
use Rattle.turn_laws.proofs.Reaching.{reachable_is_lawful}
use Rattle.turn_laws.specs.Reachable.{HasPlaces, IsReachable, after_lines}
use Rattle.play_laws.specs.Held.{EachIsOfAGame}

-- the machine of a cave leads where lines of a log lead
leads : (cave : CaveView) (s : State) (lines : List (List ℕ))
    → after_lines cave s lines ≡ state_after (cave_rules cave) s lines
leads cave s [] = refl
leads cave s (line ∷ lines) = leads cave ((cave_rules cave).after s line) lines

-- a state to which lines of a game lead is one that a game reaches
pub reached : (cave : CaveView) (seed : ℕ) (lines : List (List ℕ)) (s : State)
    → s ≡ state_after (cave_rules cave) ((cave_rules cave).begun seed) lines → IsReachable cave s
reached cave seed lines s is = record {
  seed = seed;
  lines = lines;
  leads = leads cave ((cave_rules cave).begun seed) lines ∙ sym is;
}

pub each_reached : (cave : CaveView) (game : Game) → HasPlaces cave → EachIsOfAGame cave game
each_reached cave game places place =
    let is = reached cave game.seed (take place game.log) _ refl in
    record { reachable = is; lawful = reachable_is_lawful cave _ places is }
