-- Places of a cave, and the ways between them.
use Rattle.std.specs.Prelude.{ℕ, Bool, true, false, ◌==◌, ◌&&◌, ◌||◌, nat_le, is_some}
use Rattle.std.specs.Prelude.{List, [], ◌∷◌, ◌++◌, length, Option, None, Some}
use Rattle.std.specs.List.{filter, list_any, range_with_len, slice_get}
use Rattle.std.specs.FinMap as map
use Rattle.data_rows.specs.Rows.{Going}
use Rattle.data_rows.specs.Targets.{leads_to_place}
use Rattle.data_rows.specs.declared.targets.Destination.{Destination}
use Rattle.data_rows.specs.declared.targets.Destination.TheVariants.{Place}
use Rattle.cave_data.specs.CaveView.{CaveView, ways_from}
use Rattle.base_lines.specs.Numbers.{LAST_PLACE}
use Rattle.cave_world.specs.Travel.{row_destination}
use Rattle.check_tables.specs.Reach.{may_be_taken}

-- the numbers that a place may have, in ascending order
unfoldable pub place_numbers : List ℕ
place_numbers = range_with_len 1 LAST_PLACE

abbrev pub ends_at : ℕ → Going → Bool
ends_at place row = leads_to_place place (row_destination row)

-- one of the rows after others leads to the place, and may be taken
abbrev pub lead_to : ℕ → List Going → List Going → Bool
lead_to place before [] = false
lead_to place before (row ∷ rows) =
    (ends_at place row && may_be_taken before row) || lead_to place (before ++ row ∷ []) rows

-- a way leads from one place to the other: a row that some motion may take leads there
abbrev pub is_way : CaveView → ℕ → ℕ → Bool
is_way cave from to = lead_to to [] (ways_from cave from)

abbrev pub is_row_to : ℕ → Option Going → Bool
is_row_to place None = false
is_row_to place (Some row) = ends_at place row

-- that row of the place which has this index leads to the other place: it says no message, doesn't
-- just put the emerald down, and has no rules of its own
abbrev pub leads_by : CaveView → ℕ → ℕ → ℕ → Bool
leads_by cave from index to = is_row_to to (slice_get (ways_from cave from) index)

-- a way leads from one of the two places to the other
abbrev pub are_joined : CaveView → ℕ → ℕ → Bool
are_joined cave from to = is_way cave from to || is_way cave to from

-- a way begins or ends at the place
abbrev pub has_way : CaveView → ℕ → Bool
has_way cave place = list_any (are_joined cave place) place_numbers

-- a place is on the map if it has a text, or a way
abbrev pub is_mapped : CaveView → ℕ → Bool
is_mapped cave place =
    is_some (map.get cave.long place) || is_some (map.get cave.short place) || has_way cave place

unfoldable pub mapped_places : CaveView → List ℕ
mapped_places cave = filter (is_mapped cave) place_numbers

unfoldable pub ends_of_ways : CaveView → ℕ → List ℕ
ends_of_ways cave from = filter (is_way cave from) place_numbers

-- the destination isn't a place, but a message or a way that has its own rules
abbrev pub is_no_place : Destination → Bool
is_no_place (Place place) = place == 0
is_no_place _ = true

abbrev pub leads_nowhere : Going → Bool
leads_nowhere row = is_no_place (row_destination row)

abbrev pub count_nowhere : CaveView → ℕ → ℕ
count_nowhere cave place = length (filter leads_nowhere (ways_from cave place))

-- the way begins the edge of two places between which ways lead: it belongs to the lower of them
abbrev pub begins_edge : CaveView → ℕ → ℕ → Bool
begins_edge cave from to = nat_le from to && are_joined cave from to

-- the other ends of the edges of a place
unfoldable pub ends_of_edges : CaveView → ℕ → List ℕ
ends_of_edges cave from = filter (begins_edge cave from) place_numbers
