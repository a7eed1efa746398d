-- What rows ask of the scene that they are played in.
use Rattle.std.specs.Prelude.{ℕ, ℤ, pos, ◌==◌, ◌&&◌, ◌||◌, not, nat_le, int_le, int_lt, List}
use Rattle.std.specs.Prelude.{length, is_some, unwrap_or}
use Rattle.std.specs.List.{list_any}
use Rattle.data_rows.specs.declared.place_role.PlaceRole.{PlaceRole}
use Rattle.cave_words.specs.Stream.{number_drawn}
use Rattle.cave_words.specs.declared.named.Named.{Named}
use Rattle.world_objects.specs.Objects.{is_object_at, is_gone, is_place, is_in_hands}
use Rattle.world_objects.specs.Objects.{objects_in_hands, prop_of}
use Rattle.cave_world.specs.Sight.{dark, forced}
use Rattle.cave_world.specs.State.{is_hint_taken, takes_no_command}
use Rattle.turn_scene.specs.Scene.{thing, happens, is_called}
use Rattle.turn_scene.specs.Reach.{is_carried, is_near, has_prop, has_other_prop, has_prop_up_to}
use Rattle.turn_scene.specs.Reach.{is_dwarf_here, is_fixed, liquid_of, lake_of, is_liquid}
use Rattle.turn_scene.specs.Homes.{home, second_home, is_at_home, is_home_here, is_home_elsewhere}
use Rattle.turn_scene.specs.Places.{place_named, has_condition_of, outside_place, deep_place}
use Rattle.turn_scene.specs.Places.{building_place, start_place}
use Rattle.turn_scene.specs.declared.conditions.PlaceCondition.{PlaceCondition}
use Rattle.turn_scene.specs.Treasures.{is_treasure}
use Rattle.turn_scene.specs.Rows.{Deed, Test, Thing}

-- a player with this many objects in the hands takes no more
abbrev pub MAX_TAKEN : ℕ
MAX_TAKEN = 7

-- how often the game says that there are no more details
abbrev pub MAX_DETAILS : ℕ
MAX_DETAILS = 3

-- what rows about anything ask
module _ {C : Type 0} where
  -- the object of a name
  abbrev pub the : Named → Thing C
  the n d = thing d.cave n

  abbrev pub no : Test C → Test C
  no test d = not (test d)

  abbrev pub either : Test C → Test C → Test C
  either one other d = one d || other d

  abbrev pub both : Test C → Test C → Test C
  both one other d = one d && other d

  abbrev pub there_is : Thing C → Test C
  there_is t d = not (t d == 0)

  -- an object is carried, a liquid in the bottle
  abbrev pub carried : Thing C → Test C
  carried t d = is_carried d.cave d.scene.state (t d)

  -- the first half of an object is in the hands
  abbrev pub in_hands : Thing C → Test C
  in_hands t d = is_in_hands d.scene.state.objects (t d)

  -- an object is carried, or its first half is here
  abbrev pub near : Thing C → Test C
  near t d = is_near d.cave d.scene.state (t d)

  -- a half of an object is here
  abbrev pub is_here : Thing C → Test C
  is_here t d = is_object_at d.scene.state.objects d.scene.state.trail.here (t d)

  -- an object can't be moved
  abbrev pub immovable : Thing C → Test C
  immovable t d = is_fixed d.scene.state (t d)

  abbrev pub prop : Thing C → ℤ → Test C
  prop t v d = has_prop d.scene.state (t d) v

  abbrev pub other_prop : Thing C → ℤ → Test C
  other_prop t v d = has_other_prop d.scene.state (t d) v

  abbrev pub prop_up_to : Thing C → ℤ → Test C
  prop_up_to t v d = has_prop_up_to d.scene.state (t d) v

  abbrev pub prop_from : Thing C → ℤ → Test C
  prop_from t v d = there_is t d && int_le v (prop_of d.scene.state.objects (t d))

  -- a dwarf is here
  abbrev pub dwarf : Test C
  dwarf d = is_dwarf_here d.scene.state

  -- the dwarves are this angry
  abbrev pub anger : ℕ → Test C
  anger n d = d.scene.state.dwarves.anger == n

  abbrev pub cave_closing : Test C
  cave_closing d = d.scene.state.closing.is_closing

  abbrev pub cave_closed : Test C
  cave_closed d = d.scene.state.closing.is_closed

  -- the object is what is in the bottle
  abbrev pub in_bottle : Thing C → Test C
  in_bottle t d = is_liquid (t d) (liquid_of d.cave d.scene.state)

  -- the bottle has something in it
  abbrev pub bottle_full : Test C
  bottle_full d = is_some (liquid_of d.cave d.scene.state)

  -- the lake is of this object
  abbrev pub in_lake : Thing C → Test C
  in_lake t d = is_liquid (t d) (lake_of d.cave d.scene.state)

  abbrev pub lake : Test C
  lake d = is_some (lake_of d.cave d.scene.state)

  -- how many objects are in the hands
  abbrev pub held : Deed C → ℕ
  held d = length (objects_in_hands d.scene.state.objects)

  abbrev pub full_hands : Test C
  full_hands d = nat_le MAX_TAKEN (held d)

  abbrev pub treasure : Thing C → Test C
  treasure t d = is_treasure (t d)

  -- a draw: one case of this many
  abbrev pub one_in : ℕ → Test C
  one_in n d = number_drawn n d.scene.state.stream == 0

  -- a draw: this many of 100 cases
  abbrev pub percent : ℕ → Test C
  percent p d = happens p d.scene

  -- the first half of an object is nowhere
  abbrev pub nowhere : Thing C → Test C
  nowhere t d = is_gone d.scene.state.objects (t d)

  -- the first half of an object is at home
  abbrev pub at_home : Thing C → Test C
  at_home t d = is_at_home d.cave d.scene.state (t d)

  -- the player is where an object is at home, or elsewhere
  abbrev pub player_at_home : Thing C → Test C
  player_at_home t d = is_home_here d.cave d.scene.state (t d)

  abbrev pub away_from_home : Thing C → Test C
  away_from_home t d = is_home_elsewhere d.cave d.scene.state (t d)

  -- where the halves of an object are at home; 0 is no place
  abbrev pub home_of : Thing C → Deed C → ℕ
  home_of t d = home d.cave (t d)

  abbrev pub second_home_of : Thing C → Deed C → ℕ
  second_home_of t d = second_home d.cave (t d)

  -- the cave has a place of a role
  abbrev pub is_bound : PlaceRole → Test C
  is_bound role d = is_some (place_named d.cave role)

  -- the place of a role, if it has one
  abbrev pub place_of : PlaceRole → Deed C → ℕ
  place_of role d = unwrap_or (place_named d.cave role) 0

  abbrev pub player_at : PlaceRole → Test C
  player_at role d = is_place d.scene.state.trail.here (place_named d.cave role)

  -- the lamp went out
  abbrev pub lamp_dead : Test C
  lamp_dead d = int_lt d.scene.state.lamp.charge (pos 0)

  -- the player sees nothing
  abbrev pub in_the_dark : Test C
  in_the_dark d = dark d.cave (thing d.cave Named.Lamp) d.scene.state

  -- it was dark as the turn began
  abbrev pub was_dark : Test C
  was_dark d = d.scene.was_dark

  -- where the player is
  abbrev pub here : Deed C → ℕ
  here d = d.scene.state.trail.here

  -- the player is at one of the places
  abbrev pub at_one_of : List ℕ → Test C
  at_one_of places d = list_any (λ place. here d == place) places

  -- the player is at one of the places from one to another
  abbrev pub at_from_to : ℕ → ℕ → Test C
  at_from_to first end d = nat_le first (here d) && nat_le (here d) end

  -- where the player came from, and where the player was before that
  abbrev pub old : Deed C → ℕ
  old d = d.scene.state.trail.last

  abbrev pub older : Deed C → ℕ
  older d = d.scene.state.trail.older

  -- the places that a cave has without a binding too
  abbrev pub start : Deed C → ℕ
  start d = start_place d.cave

  abbrev pub building : Deed C → ℕ
  building d = building_place d.cave

  -- the player is in the depths of the cave
  abbrev pub in_the_depths : Test C
  in_the_depths d = nat_le (deep_place d.cave) d.scene.state.trail.here

  -- a place is one of those outside the cave, or none
  abbrev pub outside : (Deed C → ℕ) → Test C
  outside place d = nat_le (place d) (outside_place d.cave)

  -- a place has a condition
  abbrev pub place_has : PlaceCondition → (Deed C → ℕ) → Test C
  place_has c place d = has_condition_of d.cave (place d) c

  -- a place moves the player on at once
  abbrev pub forced_at : (Deed C → ℕ) → Test C
  forced_at place d = forced d.cave (place d)

  -- two places or objects are the same
  abbrev pub same : (Deed C → ℕ) → (Deed C → ℕ) → Test C
  same one other d = one d == other d

  -- the hint of a number was taken
  abbrev pub has_hint : (Deed C → ℕ) → Test C
  has_hint h d = is_hint_taken d.scene.state (h d)

  -- this many deaths are counted
  abbrev pub deaths : ℕ → Test C
  deaths n d = d.scene.state.tallies.deaths == n

  -- a question is open, or the game has ended
  abbrev pub over : Test C
  over d = takes_no_command d.scene.state

  -- the last object that was named is the one of a name
  abbrev pub last_object : Named → Test C
  last_object n d = is_called d.cave d.scene.state.talk.last n

-- what rows about an object, a hint or a dwarf ask, by its number
abbrev pub it : Thing ℕ
it d = d.about

abbrev pub is_it : Named → Test ℕ
is_it n d = is_called d.cave d.about n
