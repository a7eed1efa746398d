-- What rules ask of the objects that they name: a place where it is at first, texts for its props,
-- and places of the bindings. A way through the narrow passage and a message need such places, too.
use Rattle.std.specs.Prelude.{ℕ, Bool, true, false, ◌==◌, ◌&&◌, ◌||◌, not, is_some, if◌then◌else◌}
use Rattle.std.specs.Prelude.{List, [], ◌∷◌, Option, Some, None, ◌+◌, ◌*◌, pos, ◌+ℤ◌, int_lt}
use Rattle.std.specs.FinMap as map
use Rattle.std.specs.List.{list_any}
use Rattle.cave_data.specs.CaveView.{CaveView, look_of, placement_of, ways_from}
use Rattle.cave_words.specs.Named.{object_named}
use Rattle.cave_words.specs.declared.named.Named.{Named}
use Rattle.data_rows.specs.PlaceRole.{place_number}
use Rattle.data_rows.specs.Role.{role_number}
use Rattle.data_rows.specs.Rows.{Going}
use Rattle.data_rows.specs.declared.binding.Key.{Key}
use Rattle.data_rows.specs.declared.binding.Key.TheVariants.{RoleKey}
use Rattle.data_rows.specs.declared.place_role.PlaceRole.{PlaceRole}
use Rattle.data_rows.specs.declared.place_role.PlaceRole.TheVariants as role
use Rattle.data_rows.specs.declared.role.Role.TheVariants.{Hollow}
use Rattle.data_rows.specs.declared.targets.Destination.{Destination}
use Rattle.data_rows.specs.declared.targets.Special.TheVariants.{Squeeze}
use Rattle.cave_world.specs.Travel.{row_destination}
use Rattle.turn_scene.specs.Treasures.{is_treasure}
use Rattle.check_tables.specs.Unused.{is_number, place_numbers}
use Rattle.check_doubts.specs.Treasures.{is_placed}
use Rattle.check_doubts.specs.Ways.{is_textless_end}
use Rattle.check_doubts.specs.declared.flaw.CaveFlaw.{CaveFlaw}
use Rattle.check_doubts.specs.declared.flaw.Subject.TheVariants as subject
use Rattle.check_doubts.specs.declared.needs.Need.{Need}
use Rattle.check_doubts.specs.declared.needs.Need.TheVariants.{Brought, Found, Placed, Prop, Role}
use Rattle.data_lines.specs.Marks.{is_name, is_long_text, is_short_text}
use Rattle.data_lines.specs.declared.mark.MarkedRow.{MarkedRow}
use Rattle.std.specs.Ordering.{int_eq}
use Rattle.data_rows.specs.Targets.{destination_of, leads_to_place}

-- the props that rules set, as what is seen of the object, or whose texts they print; and the places
-- to which they bring it or at which they look for it: the store of a closed cave has the rods of
-- both marks
unfoldable pub needs : List Need
needs =
    Placed ∷ Brought Named.SecondRod ∷ Brought Named.Oyster ∷ Brought Named.Axe
    ∷ Brought Named.SecondTroll ∷ Brought Named.Message ∷ Brought Named.Batteries ∷ Brought Named.Chest
    ∷ Brought Named.Pearl
    ∷ Prop Named.Lamp 1 ∷ Prop Named.Grate 1
    ∷ Role Named.Rod role.Ne ∷ Role Named.Rod role.Sw
    ∷ Prop Named.Bird 1 ∷ Prop Named.Door 1 ∷ Prop Named.Fissure 1 ∷ Prop Named.Fissure 2
    ∷ Prop Named.Oyster 1
    ∷ Role Named.Magazine role.Witt
    ∷ Role Named.Dwarf role.Dwarf1 ∷ Role Named.Dwarf role.Dwarf2 ∷ Role Named.Dwarf role.Dwarf3
    ∷ Role Named.Dwarf role.Dwarf4 ∷ Role Named.Dwarf role.Dwarf5 ∷ Role Named.Dwarf role.Dwarfalt
    ∷ Prop Named.Bottle 1 ∷ Prop Named.Bottle 2
    ∷ Prop Named.Plant 1 ∷ Prop Named.Plant 2 ∷ Prop Named.Plant 3 ∷ Prop Named.Plant 4
    ∷ Prop Named.Plant 5
    ∷ Prop Named.SecondPlant 1 ∷ Prop Named.SecondPlant 2
    ∷ Prop Named.Axe 1 ∷ Prop Named.Dragon 1 ∷ Prop Named.Dragon 2 ∷ Prop Named.Chasm 1
    ∷ Prop Named.Troll 1
    ∷ Prop Named.Bear 1 ∷ Prop Named.Bear 2 ∷ Prop Named.Bear 3
    ∷ Role Named.Message role.Message
    ∷ Prop Named.Batteries 1
    ∷ Role Named.Chest role.Chest
    ∷ Prop Named.Eggs 1 ∷ Prop Named.Eggs 2
    ∷ Prop Named.Vase 1 ∷ Prop Named.Vase 2 ∷ Prop Named.Vase 3
    ∷ Role Named.Pearl role.Culdesac
    ∷ Found Named.Rug 1 ∷ Found Named.Chain 1 ∷ Prop Named.Chain 2 ∷ []

abbrev pub is_squeeze : Destination → Bool
is_squeeze (Destination.Special Squeeze) = true
is_squeeze _ = false

-- a player gets by the way from the one end of the narrow passage to the other
abbrev pub is_squeezed : Option Going → Bool
is_squeezed None = false
is_squeezed (Some way) = is_squeeze (row_destination way)

abbrev pub begins_at : ℕ → ℕ → CaveFlaw
begins_at object place =
    CaveFlaw.Textless (if is_treasure object then subject.Treasure object else subject.Needed object) place

module _ (cave : CaveView) where
  abbrev pub is_bound : PlaceRole → Bool
  is_bound role = is_some (map.get cave.places (place_number role))

  abbrev pub is_of : ℕ → Named → Bool
  is_of object named = is_number object (object_named cave named)

  -- the object may have a prop for which it has no text
  abbrev pub prop_flaw : ℕ → ℕ → Bool → Option CaveFlaw
  prop_flaw object prop may_have = if may_have && not (is_some (look_of cave object prop))
      then Some (CaveFlaw.PropTextless object prop) else None

  -- an object that a place has, or gets by rules, is seen with prop 0, and some treasures first
  -- with another
  abbrev pub need_flaw : ℕ → Need → Option CaveFlaw
  need_flaw object Placed = prop_flaw object 0 (is_placed cave object)
  need_flaw object (Brought named) =
      prop_flaw object 0 (is_of object named && not (is_placed cave object))
  need_flaw object (Found named prop) =
      prop_flaw object prop (is_of object named && is_treasure object)
  need_flaw object (Prop named prop) = prop_flaw object prop (is_of object named)
  need_flaw object (Role named role) = if is_of object named && not (is_bound role)
      then Some (CaveFlaw.PlaceUnbound (place_number role) object) else None

  -- a dwarf that has a place may throw an axe
  abbrev pub has_dwarf : Bool
  has_dwarf =
      is_bound role.Dwarf1 || is_bound role.Dwarf2 || is_bound role.Dwarf3 || is_bound role.Dwarf4
      || is_bound role.Dwarf5

  -- players need it, and no rule brings it
  abbrev pub is_tool : ℕ → Bool
  is_tool object =
      is_of object Named.Keys || is_of object Named.Lamp || is_of object Named.Bird
      || (is_of object Named.Axe && not has_dwarf)

  -- a row is the first line of the inventory text of such an object that is nowhere
  abbrev pub is_missing : ℕ → List MarkedRow → Bool
  is_missing object before =
      is_tool object && not (list_any (is_name object) before) && not (is_placed cave object)

  -- the first place of a treasure, or of such an object, has no text
  abbrev pub start_flaw : ℕ → Option CaveFlaw
  start_flaw object =
      let start = (placement_of cave object).first in
      if (is_treasure object || is_tool object) && is_textless_end cave start
      then Some (begins_at object start) else None

  -- such a way needs the place of an end
  abbrev pub passage_flaw : PlaceRole → Option Going → Option CaveFlaw
  passage_flaw role way = if is_squeezed way && not (is_bound role)
      then Some (CaveFlaw.EndUnbound (place_number role)) else None

  -- the hollow voice is heard at one place only
  abbrev pub voice_flaw : Key → Option CaveFlaw
  voice_flaw (RoleKey said) = if said == role_number Hollow && not (is_bound role.Y2)
      then Some (CaveFlaw.SaidNowhere said (place_number role.Y2)) else None
  voice_flaw _ = None

abbrev pub leads_to : ℕ → Going → Bool
leads_to place row = leads_to_place place (destination_of row.target)

module _ (cave : CaveView) (place : ℕ) where
  -- a way leads to the place from another one
  abbrev pub is_led_to_from : ℕ → Bool
  is_led_to_from other =
      not (other == place) && list_any (leads_to place) (ways_from cave other)

  abbrev pub is_led_to : Bool
  is_led_to = list_any is_led_to_from place_numbers

  abbrev pub has_role : PlaceRole → Bool
  has_role role = is_number place (map.get cave.places (place_number role))

  -- rules bring a player there: as the game begins, after a death, as the cave closes, and through
  -- the narrow passage
  abbrev pub is_brought_to : Bool
  is_brought_to =
      has_role role.Start || has_role role.Building || has_role role.Ne || has_role role.Alcove
      || has_role role.Plover

  -- an object is there as a game begins, by one of its halves
  abbrev pub holds_at_first : Option ℕ → Bool
  holds_at_first None = false
  holds_at_first (Some object) =
      (placement_of cave object).first == place
      || int_eq (placement_of cave object).second (pos place)

  -- the bridge leads from one place of the troll to the other
  abbrev pub is_bridge_end : Bool
  is_bridge_end = holds_at_first (object_named cave Named.Troll)

  -- half-way between the two places where an object is as a game begins
  abbrev pub is_midway : Option ℕ → Bool
  is_midway None = false
  is_midway (Some object) =
      let at = placement_of cave object in
      let sum = pos at.first +ℤ at.second in
      not (at.first == 0) && int_lt (pos 0) at.second
      && (int_eq sum (pos (2 * place)) || int_eq sum (pos (2 * place + 1)))

  -- a player who kills the dragon stands half-way between its places
  abbrev pub is_lair : Bool
  is_lair = is_midway (object_named cave Named.Dragon)

  abbrev pub is_come_to : Bool
  is_come_to = is_led_to || is_brought_to || is_bridge_end || is_lair

  -- a row is the first line of the place's long text, after these rows
  abbrev pub is_unreached_long : List MarkedRow → Bool
  is_unreached_long before = not (list_any (is_long_text place) before) && not is_come_to

  -- or of its short text, if it has no long one
  abbrev pub is_unreached_short : List MarkedRow → Bool
  is_unreached_short before =
      not (is_some (map.get cave.long place)) && not (list_any (is_short_text place) before)
      && not is_come_to
