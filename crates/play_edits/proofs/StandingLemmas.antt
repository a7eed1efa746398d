-- Where a held game is after its last line, and its state there.
use Rattle.std.proofs.Common.{◌≡◌, ℕ, Bool, List, length, subst, refl}
use Rattle.std.specs.declared.option.Option.{Option}
use Rattle.cave_data.specs.CaveView.{CaveView}
use Rattle.turn_ends.specs.Score.{score_of, max_score_of}
use Rattle.cave_world.specs.declared.ending.Ending.{Ending}
use Rattle.cave_world.specs.declared.part.Part.{Part}
use Rattle.cave_world.specs.declared.state.State.{State}
use Rattle.replay_edits.specs.Edit.{Game}
use Rattle.cave_replay.specs.Play.{IsPlay}
use Rattle.play_machine.specs.Machine.{cave_rules}
use Rattle.play_edits.specs.Outcome.{standing_of}
use Rattle.play_machine.specs.Transcript.{ticks as ticks_of}
use Rattle.play_edits.specs.declared.outcome.Standing.{Standing}
use Rattle.play_edits.specs.Accounts.{last_state}

-- by its parts
abbrev pub standing : ℕ → ℕ → ℕ → ℕ → Option Ending → Standing
standing score most turns place ending =
    record { score = score; most = most; turns = turns; place = place; ending = ending }

pub standing-same : (score most turns place : ℕ) (ending : Option Ending)
    (points greatest taken here : ℕ) (end : Option Ending)
    → score ≡ points → most ≡ greatest → turns ≡ taken → place ≡ here → ending ≡ end
    → standing score most turns place ending ≡ standing points greatest taken here end
standing-same score most turns place ending points greatest taken here end a b c d e =
    rw (a, b, c, d, e) refl

-- what a session holds of the play of a game says where the game is
pub standing-played : (cave kept : CaveView) (game : Game) (opening : List Part)
    (pieces : List (List Part)) (ticks : List Bool) (state : State) → kept ≡ cave
    → IsPlay (cave_rules kept) game opening pieces ticks state
    → standing (score_of cave state) (max_score_of cave) (ticks_of ticks (length game.log))
    state.trail.here state.ending ≡ standing_of cave game
unfolding standing_of
standing-played cave kept game opening pieces ticks state same played =
    let here = subst (λ k. IsPlay (cave_rules k) game opening pieces ticks state) same played in
    rw (here.ticks_are, here.state_is) refl

-- the state that a session holds of the play of a game is the last one
pub last_state-played : (cave kept : CaveView) (game : Game) (opening : List Part)
    (pieces : List (List Part)) (ticked : List Bool) (state : State) → kept ≡ cave
    → IsPlay (cave_rules kept) game opening pieces ticked state → state ≡ last_state cave game
unfolding last_state
last_state-played cave kept game opening pieces ticked state same played =
    let here = subst (λ k. IsPlay (cave_rules k) game opening pieces ticked state) same played in
    here.state_is
