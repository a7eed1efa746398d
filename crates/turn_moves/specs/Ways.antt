-- Words of the rules about ways and places: what they ask and do, and where they take a player.
use Rattle.std.specs.Prelude.{ℕ, ◌==◌, if◌then◌else◌, Option, Some, None, is_some, unwrap_or}
use Rattle.turn_scene.specs.Rows.{Deed, Act, Test, Effect, act_of}
use Rattle.turn_scene.specs.Effects.{in_scene}
use Rattle.turn_scene.specs.Scene.{Scene, here_of}
use Rattle.turn_moves.specs.Dying.{after_die_at}

-- where a passage leads from here: to the other of its ends, if the player is at one
abbrev pub Passage : Type 0 → Type 0
Passage C = Deed C → Option ℕ

-- the other end of a passage between two places
abbrev pub other_end : ℕ → Option ℕ → Option ℕ → Option ℕ
other_end here (Some a) (Some b) =
    if here == a then Some b else (if here == b then Some a else None)
other_end here _ _ = None

-- the player arrives where the player is
abbrev pub staying : Scene → Act ℕ
staying p = act_of p (here_of p)

module _ {C : Type 0} where
  -- a passage leads on from where the player is
  abbrev pub passable : Passage C → Test C
  passable passage d = is_some (passage d)

  abbrev pub end_of : Passage C → Deed C → ℕ
  end_of passage d = unwrap_or (passage d) 0

  -- the player dies, and what is in the hands will be at a place
  abbrev pub die_at : (Deed C → ℕ) → Effect C
  die_at place d = in_scene (after_die_at d.cave (place d) d.scene) d
