-- What is near is an object.
use Rattle.std.proofs.Common.{◌≡◌, ℕ, zero, suc, ◌<◌, true, arith}
use Rattle.std.proofs.lemmas.Bool.{false≢true}
use Rattle.cave_data.specs.CaveView.{CaveView}
use Rattle.world_objects.specs.Objects.{spot_of, is_in_hands, is_first_at}
use Rattle.cave_world.specs.declared.state.State.{State}
use Rattle.turn_scene.specs.Scene.{is_called}
use Rattle.turn_scene.specs.Reach.{is_carried, is_near}

pub is_something : (cave : CaveView) (s : State) (x : ℕ) → is_near cave s x ≡ true → 0 < x
unfolding is_near is_carried is_called is_in_hands is_first_at spot_of
is_something cave s zero near = absurd (false≢true near)
is_something cave s (suc x) near = omega arith
