-- The places that rules name, and their conditions.
use Rattle.std.specs.Prelude.{ℕ, Option, unwrap_or, Bool}
use Rattle.std.specs.FinMap as map
use Rattle.cave_data.specs.CaveView.{CaveView}
use Rattle.data_rows.specs.PlaceRole.{place_number}
use Rattle.data_rows.specs.declared.place_role.PlaceRole.{PlaceRole}
use Rattle.cave_data.specs.Bindings.{DEFAULT_START, DEFAULT_BUILDING, DEFAULT_OUTSIDE, DEFAULT_DEEP}
use Rattle.cave_world.specs.Sight.{has_condition}
use Rattle.turn_scene.specs.declared.conditions.PlaceCondition.{PlaceCondition}

abbrev pub bit_of : PlaceCondition → ℕ
bit_of PlaceCondition.Oil = 1
bit_of PlaceCondition.Liquid = 2
bit_of PlaceCondition.NoPirate = 3

abbrev pub has_condition_of : CaveView → ℕ → PlaceCondition → Bool
has_condition_of cave place c = has_condition cave place (bit_of c)

unfoldable pub place_named : CaveView → PlaceRole → Option ℕ
place_named cave role = map.get cave.places (place_number role)

-- the place where a game begins
unfoldable pub start_place : CaveView → ℕ
start_place cave = unwrap_or (place_named cave PlaceRole.Start) DEFAULT_START

unfoldable pub outside_place : CaveView → ℕ
outside_place cave = unwrap_or (place_named cave PlaceRole.Outside) DEFAULT_OUTSIDE

-- the first place of the cave's depths
unfoldable pub deep_place : CaveView → ℕ
deep_place cave = unwrap_or (place_named cave PlaceRole.Deep) DEFAULT_DEEP

-- the place where treasures are to be brought
unfoldable pub building_place : CaveView → ℕ
building_place cave = unwrap_or (place_named cave PlaceRole.Building) DEFAULT_BUILDING
