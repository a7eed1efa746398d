-- Where objects are at home: where they are as a game begins.
use Rattle.std.specs.Prelude.{ℕ, ℤ, pos, negsuc, zero, suc, Bool, ◌==◌, ◌&&◌, not, Option, Some}
use Rattle.std.specs.Prelude.{None}
use Rattle.cave_data.specs.CaveView.{CaveView, placement_of}
use Rattle.world_objects.specs.Objects.{spot_of, is_place}
use Rattle.world_objects.specs.declared.spot.Anchor.{Anchor}
use Rattle.world_objects.specs.declared.spot.Spot.{Spot}
use Rattle.cave_world.specs.declared.state.State.{State}

-- where an object is as the game begins
abbrev pub home : CaveView → ℕ → ℕ
home cave x = (placement_of cave x).first

-- what holds it there: -1 says that it can't be moved, and a place is that of its second half
abbrev pub anchor_by : ℤ → Anchor
anchor_by (pos zero) = Anchor.Loose
anchor_by (pos (suc n)) = Anchor.At (suc n)
anchor_by (negsuc n) = Anchor.Fixed

abbrev pub hold_of : CaveView → ℕ → Anchor
hold_of cave x = anchor_by (placement_of cave x).second

-- the place of a second half; 0 if the number is no place
abbrev pub as_place : ℤ → ℕ
as_place (pos n) = n
as_place (negsuc n) = 0

abbrev pub second_home : CaveView → ℕ → ℕ
second_home cave x = as_place (placement_of cave x).second

-- the place of a first half; 0 is nowhere, and what is in the hands is at no place
abbrev pub place_or_nowhere : Spot → Option ℕ
place_or_nowhere Spot.Away = Some 0
place_or_nowhere Spot.InHands = None
place_or_nowhere (Spot.At place) = Some place

-- the first half of an object is at home, which may be nowhere
unfoldable pub is_at_home : CaveView → State → ℕ → Bool
is_at_home cave s x =
    not (x == 0) && is_place (home cave x) (place_or_nowhere (spot_of s.objects x))

-- the player is where the object is at home
unfoldable pub is_home_here : CaveView → State → ℕ → Bool
is_home_here cave s x = not (x == 0) && home cave x == s.trail.here

-- the player is elsewhere
unfoldable pub is_home_elsewhere : CaveView → State → ℕ → Bool
is_home_elsewhere cave s x = not (x == 0) && not (home cave x == s.trail.here)
