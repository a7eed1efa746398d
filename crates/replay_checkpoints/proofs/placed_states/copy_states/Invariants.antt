use Rattle.std.proofs.Common.{◌≡◌, map, take}
use Rattle.replay_checkpoints.proofs.placed_states.copy_states.Given as goal

abbrev pub invariant-loop-state : goal.invariant-loop-state
invariant-loop-state g l =
    map g.K.KeptState.state_of l.copy.items ≡ take l.state-index
    (map g.K.KeptState.state_of l.states)
