-- What rows do to the scene by moving the player.
use Rattle.std.specs.Prelude.{ℕ}
use Rattle.turn_scene.specs.Scene.{scene_at_place}
use Rattle.turn_moves.specs.Arrival.{after_arrival}
use Rattle.turn_scene.specs.Rows.{Deed, Effect}
use Rattle.turn_scene.specs.Effects.{in_scene}

module _ {C : Type 0} where
  -- the player arrives at a place
  abbrev pub arrive : (Deed C → ℕ) → Effect C
  arrive place d = in_scene (after_arrival d.cave (place d) d.scene) d

  -- the player is put at a place, and where the player came from doesn't change
  abbrev pub stand : (Deed C → ℕ) → Effect C
  stand place d = in_scene (scene_at_place (place d) d.scene) d
