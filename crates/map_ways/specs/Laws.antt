-- Laws about ways.
use Rattle.std.specs.Prelude.{◌≡◌, ℕ, ◌+◌, ◌<◌, ◌≤◌, Bool, true, ◌==◌, if◌then◌else◌, List, length}
use Rattle.std.specs.Prelude.{Some, Contains}
use Rattle.std.specs.List.{filter, slice_get}
use Rattle.cave_data.specs.CaveView.{CaveView, ways_from}
use Rattle.base_lines.specs.Numbers.{LAST_PLACE}
use Rattle.data_rows.specs.Rows.{Going}
use Rattle.cave_world.specs.declared.state.State.{State}
use Rattle.cave_world.specs.declared.tables.RuleRow.TheVariants.{OfPlace}
use Rattle.cave_world.specs.Travel.{rows_tried_from}
use Rattle.map_ways.specs.Ways.{are_joined, ends_at, ends_of_edges, is_mapped, is_way}
use Rattle.map_ways.specs.Ways.{mapped_places}

abbrev pub IsPlaceNumber : ℕ → Type 0
IsPlaceNumber place = (0 < place) × (place ≤ LAST_PLACE)

-- how often a number is among others
abbrev pub count_of : ℕ → List ℕ → ℕ
count_of number numbers = length (filter (λ n. n == number) numbers)

abbrev pub count_if : Bool → ℕ
count_if holds = if holds then 1 else 0

-- each place that has a text, or a way, is exactly once among the places of the map, and no other
-- is
abbrev pub EachPlaceHasOneNode : Type 0
EachPlaceHasOneNode =
    (cave : CaveView) (place : ℕ)
    → IsPlaceNumber place
    → count_of place (mapped_places cave) ≡ count_if (is_mapped cave place)

-- how many edges are between two places: those of the one, and those of the other if it is another
abbrev pub count_edges_of : CaveView → ℕ → ℕ → ℕ
count_edges_of cave from to =
    count_of to (ends_of_edges cave from)
    + (if from == to then 0 else count_of from (ends_of_edges cave to))

-- each way has one edge, which is also that of the way back, and where no way leads there is none
abbrev pub EachWayHasOneEdge : Type 0
EachWayHasOneEdge =
    (cave : CaveView) (from to : ℕ)
    → IsPlaceNumber from
    → IsPlaceNumber to
    → count_edges_of cave from to ≡ count_if (are_joined cave from to)

-- each place from or to which a way leads is on the map
abbrev pub EndsAreNodes : Type 0
EndsAreNodes =
    (cave : CaveView) (from to : ℕ)
    → IsPlaceNumber from
    → IsPlaceNumber to
    → is_way cave from to ≡ true
    → (is_mapped cave from ≡ true) × (is_mapped cave to ≡ true)

-- a row of a place that a motion tries there, from any state, and that applies, is one of a way if
-- it leads to a place: so the map draws what `travel` notes
abbrev pub AppliedRowsAreWays : Type 0
AppliedRowsAreWays =
    (cave : CaveView) (emerald motion from to index : ℕ) (s : State) (row : Going)
    → Contains (rows_tried_from cave emerald motion s) (OfPlace from index true)
    → slice_get (ways_from cave from) index ≡ Some row
    → ends_at to row ≡ true
    → is_way cave from to ≡ true
