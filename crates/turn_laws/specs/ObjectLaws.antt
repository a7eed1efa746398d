-- Where objects are, and how many are in the hands.
use Rattle.std.specs.Prelude.{◌≡◌, ℕ, ◌+◌, true, false, ◌≤◌, length}
use Rattle.world_objects.specs.Objects.{Layout, is_listed, spot_of, anchor_of, is_in_hands}
use Rattle.world_objects.specs.Objects.{objects_in_hands, place_of_spot, place_of_anchor, is_place}
use Rattle.world_objects.specs.Lists.{halves_at}
use Rattle.cave_world.specs.declared.state.State.{State}
use Rattle.turn_laws.specs.OneList.{AreInOneList}
use Rattle.turn_laws.specs.Laws.{Lasts}

-- at most eight objects are in the hands
abbrev pub HasFewInHands : State → Type 0
HasFewInHands s = length (objects_in_hands s.objects) ≤ 8

-- this holds as a game begins, and each line preserves it
abbrev pub FewInHands : Type 0
FewInHands = Lasts (λ cave s. HasFewInHands s)

-- an object is in one place: if it is in the hands its first half is in no list, and each half is
-- in the list of the place where its object says it is, and in no other
pub record IsInOnePlace (o : Layout) (object : ℕ) : Type 0 where
  pub in_hands :
      is_in_hands o object ≡ true → (place : ℕ)
      → is_listed object (halves_at place o.lists) ≡ false
  pub first : (place : ℕ)
      → is_listed object (halves_at place o.lists)
      ≡ is_place place (place_of_spot (spot_of o object))
  pub second : (place : ℕ)
      → is_listed (100 + object) (halves_at place o.lists)
      ≡ is_place place (place_of_anchor (anchor_of o object))

-- each half of an object is in the list of just one place, or in none, and a first half is where
-- its object says: this holds as a game begins, and each line preserves it
abbrev pub StayInOnePlace : Type 0
StayInOnePlace = Lasts (λ cave s. AreInOneList s.objects)
