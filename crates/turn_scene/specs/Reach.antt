-- What the player can get at, and what rules ask of objects. Each test is false for an object that
-- isn't there.
use Rattle.std.specs.Prelude.{ℕ, Bool, false, ◌==◌, ◌&&◌, not, if◌then◌else◌, Option, Some, None, ℤ}
use Rattle.std.specs.Prelude.{true, ◌||◌, nat_le, int_le, take}
use Rattle.std.specs.Ordering.{int_eq}
use Rattle.cave_data.specs.CaveView.{CaveView}
use Rattle.cave_words.specs.declared.named.Named.TheVariants as name
use Rattle.world_objects.specs.Objects.{prop_of, is_in_hands, is_first_at, anchor_of}
use Rattle.cave_world.specs.declared.state.State.{State}
use Rattle.turn_scene.specs.Scene.{thing, is_called}
use Rattle.turn_scene.specs.Places.{has_condition_of}
use Rattle.turn_scene.specs.declared.conditions.PlaceCondition.TheVariants as condition
use Rattle.turn_scene.specs.Props.{BOTTLE_OF_OIL, BOTTLE_OF_WATER}
use Rattle.std.specs.List.{list_any}
use Rattle.world_objects.specs.declared.spot.Anchor.{Anchor}
use Rattle.cave_world.specs.declared.dwarves.Dwarf.{Dwarf}
use Rattle.cave_world.specs.Limits.{AWAKE, PIRATE}

-- an object is the liquid that is there, if any is; object 0 is none
abbrev pub is_liquid : ℕ → Option ℕ → Bool
is_liquid x None = false
is_liquid x (Some liquid) = not (x == 0) && liquid == x

-- the liquid of the lake where the player is: oil if the place says so, and otherwise water
unfoldable pub lake_of : CaveView → State → Option ℕ
lake_of cave s =
    if has_condition_of cave s.trail.here condition.Liquid
    then (if has_condition_of cave s.trail.here condition.Oil then Some (thing cave name.Oil)
    else Some (thing cave name.Water))
    else None

-- the liquid in the bottle: water or oil by its prop, and none at any other prop
unfoldable pub liquid_of : CaveView → State → Option ℕ
liquid_of cave s =
    let bottle = thing cave name.Bottle in let prop = prop_of s.objects bottle in
    if bottle == 0 then None
    else (if int_eq prop BOTTLE_OF_WATER then Some (thing cave name.Water)
    else (if int_eq prop BOTTLE_OF_OIL then Some (thing cave name.Oil) else None))

-- an object is carried if it is in the hands, and a liquid if the bottle is there with it
unfoldable pub is_carried : CaveView → State → ℕ → Bool
is_carried cave s x =
    if is_called cave x name.Water || is_called cave x name.Oil
    then is_in_hands s.objects (thing cave name.Bottle) && is_liquid x (liquid_of cave s)
    else is_in_hands s.objects x

-- an object is carried, or its first half is where the player is
unfoldable pub is_near : CaveView → State → ℕ → Bool
is_near cave s x = is_carried cave s x || is_first_at s.objects s.trail.here x

-- an object has a prop, another one, or one up to a number
unfoldable pub has_prop : State → ℕ → ℤ → Bool
has_prop s x v = not (x == 0) && int_eq (prop_of s.objects x) v

unfoldable pub has_other_prop : State → ℕ → ℤ → Bool
has_other_prop s x v = not (x == 0) && not (int_eq (prop_of s.objects x) v)

unfoldable pub has_prop_up_to : State → ℕ → ℤ → Bool
has_prop_up_to s x v = not (x == 0) && int_le (prop_of s.objects x) v

abbrev pub is_dwarf_at : ℕ → Dwarf → Bool
is_dwarf_at place dwarf = dwarf.place == place

-- one of the dwarves before the pirate, once they are angry, is where the player is
unfoldable pub is_dwarf_here : State → Bool
is_dwarf_here s =
    nat_le AWAKE s.dwarves.anger
    && list_any (is_dwarf_at s.trail.here) (take PIRATE s.dwarves.each)

abbrev pub is_anchored : Anchor → Bool
is_anchored Anchor.Loose = false
is_anchored Anchor.Fixed = true
is_anchored (Anchor.At place) = true

-- an object can't be moved
unfoldable pub is_fixed : State → ℕ → Bool
is_fixed s x = is_anchored (anchor_of s.objects x)
