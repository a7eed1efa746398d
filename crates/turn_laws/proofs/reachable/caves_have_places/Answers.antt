use Rattle.std.proofs.Common.{arith}
use Rattle.turn_scene.specs.Places.{building_place, place_named, start_place}
use Rattle.turn_laws.proofs.Reaching.{place_or}
use Rattle.turn_laws.proofs.reachable.caves_have_places.Goals as goal

pub returns : goal.returns
unfolding building_place place_named start_place
returns c = (
  place_or _ c.place-start.result 1 (omega arith) c.place-start.ensures.value
      c.place-start.ensures.within,
  place_or _ c.place-building.result 3 (omega arith) c.place-building.ensures.value
      c.place-building.ensures.within,
)
