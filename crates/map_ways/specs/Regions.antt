-- The places within some ways of one.
use Rattle.std.specs.Prelude.{◌≡◌, ◌≤◌, ℕ, zero, suc, Bool, true, ◌==◌, ◌&&◌, ◌||◌, length}
use Rattle.std.specs.Prelude.{List, [], ◌∷◌, Option, None, Some}
use Rattle.std.specs.List.{filter, list_any}
use Rattle.cave_data.specs.CaveView.{CaveView}
use Rattle.map_ways.specs.Ways.{ends_of_ways, is_way}
use Rattle.map_ways.specs.declared.regions.Region.{Region}

abbrev pub is_one_of : List ℕ → ℕ → Bool
is_one_of places place = list_any (λ other. other == place) places

-- a way leads to the place from one of some
abbrev pub is_led_to : CaveView → List ℕ → ℕ → Bool
is_led_to cave places to = list_any (λ from. is_way cave from to) places

-- the place is one of some, or a way leads to it from one of them
abbrev pub is_way_on : CaveView → List ℕ → ℕ → Bool
is_way_on cave places to = is_one_of places to || is_led_to cave places to

-- the places, of those of a map, to which at most this many ways lead from a place, one after
-- another
abbrev pub places_within : CaveView → List ℕ → ℕ → ℕ → List ℕ
places_within cave mapped from zero = filter (λ place. place == from) mapped
places_within cave mapped from (suc ways) =
    filter (is_way_on cave (places_within cave mapped from ways)) mapped

-- the places around one, or all if there is none
abbrev pub places_around : CaveView → List ℕ → Option Region → List ℕ
places_around cave mapped None = mapped
places_around cave mapped (Some around) = places_within cave mapped around.place around.ways

-- the places, of some, to which ways lead from one
unfoldable pub ends_among : CaveView → List ℕ → ℕ → List ℕ
ends_among cave places from = filter (is_one_of places) (ends_of_ways cave from)

-- a walk by ways from one place to another, all of whose places are on the map: the places that it
-- passes, the last of them first
abbrev pub is_walk : CaveView → List ℕ → ℕ → List ℕ → ℕ → Bool
is_walk cave mapped from [] to = is_one_of mapped to && to == from
is_walk cave mapped from (last ∷ passed) to =
    is_one_of mapped to && (is_way cave last to && is_walk cave mapped from passed last)

-- a place is within this many ways of another exactly if some walk of at most this many leads there
abbrev pub RegionIsWalked : Type 0
RegionIsWalked =
    (cave : CaveView) (mapped : List ℕ) (from ways to : ℕ)
    → (is_one_of (places_within cave mapped from ways) to ≡ true
    → (passed : List ℕ) × ((length passed ≤ ways) × (is_walk cave mapped from passed to ≡ true)))
    × ((passed : List ℕ) → length passed ≤ ways → is_walk cave mapped from passed to ≡ true
    → is_one_of (places_within cave mapped from ways) to ≡ true)
