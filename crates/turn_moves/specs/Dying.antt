-- The player dies, and leaves what is in the hands where the player is or at another place.
use Rattle.std.specs.Prelude.{ℕ}
use Rattle.cave_data.specs.CaveView.{CaveView}
use Rattle.cave_world.specs.declared.state.State.{State}
use Rattle.turn_scene.specs.Scene.{Scene, with_state}
use Rattle.turn_ends.specs.Endings.{after_die}

-- what is in the hands will be put at a place once the player comes back
abbrev pub with_all_left_at : ℕ → State → State
with_all_left_at place s =
    let trail = s.trail in record s { trail = record trail { older = place } }

-- the player dies, and what is in the hands will be put at the place
unfoldable pub after_die_at : CaveView → ℕ → Scene → Scene
after_die_at cave place p = after_die cave (with_state (with_all_left_at place p.state) p)
