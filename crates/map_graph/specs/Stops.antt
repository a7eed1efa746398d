-- Where players are in the states of plays, and by which ways they go on a line.
use Rattle.std.specs.Prelude.{ℕ, Bool, true, false, ◌==◌, ◌&&◌, ◌||◌, ◌+◌, not, List, []}
use Rattle.std.specs.Prelude.{if◌then◌else◌, ◌∷◌, ◌++◌, length, slice_index_or}
use Rattle.std.specs.List.{filter, list_any, range_with_len}
use Rattle.cave_data.specs.CaveView.{CaveView, ways_from}
use Rattle.cave_world.specs.declared.tables.RuleRow.{RuleRow}
use Rattle.cave_world.specs.declared.tables.RuleRow.TheVariants.{OfPlace, OfTable}
use Rattle.cave_world.specs.declared.tables.Table.TheVariants.{Blocking}
use Rattle.check_tables.specs.Marks.{is_marked, mark}
use Rattle.map_ways.specs.Ways.{leads_by, place_numbers}
use Rattle.map_graph.specs.declared.stops.Stop.{Stop}
use Rattle.map_graph.specs.declared.stops.Stop.TheVariants.{InState, OnWay}

-- ---- the ways of a line

-- the way is blocked: the row that is noted next is one of blocked ways
abbrev pub is_blocked : List RuleRow → Bool
is_blocked (OfTable Blocking number ∷ later) = true
is_blocked _ = false

-- a travel row takes the player on its way if it applies, and if the way isn't blocked
abbrev pub way_by_row : RuleRow → List RuleRow → List Stop
way_by_row (OfPlace place index true) later =
    if is_blocked later then [] else OnWay place index ∷ []
way_by_row _ later = []

-- the ways of a line, by the rows that are noted on it, in their order
abbrev pub ways_by_rows : List RuleRow → List Stop
ways_by_rows [] = []
ways_by_rows (row ∷ later) = way_by_row row later ++ ways_by_rows later

-- ---- what one stop says

-- the player is at the place in the state
abbrev pub is_in : ℕ → Stop → Bool
is_in place (InState before here) = place == here
is_in place (OnWay from index) = false

-- that row of the place takes the player on
abbrev pub goes_by : ℕ → ℕ → Stop → Bool
goes_by place row (InState before here) = false
goes_by place row (OnWay from index) = place == from && row == index

-- the player is at the place, and wasn't there as the line began
abbrev pub arrives_at : ℕ → Stop → Bool
arrives_at place (InState before here) = place == here && not (before == here)
arrives_at place (OnWay from index) = false

-- ---- what stops say together

-- at which places players were in a state, which rows of places took them on, and how often they
-- reached a place by a line that began elsewhere, or began there
pub record Stops : Type 0 where
  pub was_at : ℕ → Bool
  pub went_by : ℕ → ℕ → Bool
  pub visits : ℕ → ℕ

-- the stops that are kept as marks of places, of rows by their places, and counts by place
pub record StopMarks : Type 0 where
  pub places : List (List Bool)
  pub ways : List (List Bool)
  pub visits : List ℕ

abbrev pub stops_of : StopMarks → Stops
stops_of marks = record {
  was_at = λ place. is_marked marks.places (mark 0 place);
  went_by = λ place row. is_marked marks.ways (mark place row);
  visits = λ place. slice_index_or marks.visits place 0;
}

abbrev pub no_stops : Stops
no_stops = record { was_at = λ _. false; went_by = λ _ _. false; visits = λ _. 0 }

-- with more stops
abbrev pub with_stops : Stops → List Stop → Stops
with_stops old stops = record {
  was_at = λ place. old.was_at place || list_any (is_in place) stops;
  went_by = λ place row. old.went_by place row || list_any (goes_by place row) stops;
  visits = λ place. old.visits place + length (filter (arrives_at place) stops);
}

abbrev pub all_stops : List Stop → Stops
all_stops stops = with_stops no_stops stops

-- a play took a way from one place to the other: by one of the rows that lead there
abbrev pub is_way_taken : CaveView → Stops → ℕ → ℕ → Bool
is_way_taken cave stops from to =
    list_any (λ row. stops.went_by from row && leads_by cave from row to)
    (range_with_len 0 (length (ways_from cave from)))

abbrev pub is_way_taken_between : CaveView → Stops → ℕ → ℕ → Bool
is_way_taken_between cave stops place other =
    is_way_taken cave stops place other || is_way_taken cave stops other place

-- plays took a way that begins or ends at the place
abbrev pub is_passed : CaveView → Stops → ℕ → Bool
is_passed cave stops place = list_any (is_way_taken_between cave stops place) place_numbers

-- a play was at the place: in a state, or on a way
abbrev pub is_visited : CaveView → Stops → ℕ → Bool
is_visited cave stops place = stops.was_at place || is_passed cave stops place
