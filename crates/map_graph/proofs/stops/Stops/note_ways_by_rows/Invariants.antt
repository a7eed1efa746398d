use Rattle.std.proofs.Common.{◌≡◌, length}
use Rattle.map_graph.specs.Stops.{stops_of, ways_by_rows, with_stops}
use Rattle.map_graph.proofs.stops.Stops.note_ways_by_rows.Given as goal

abbrev pub invariant-loop-row : goal.invariant-loop-row
invariant-loop-row l =
    with_stops (stops_of l.self) (ways_by_rows l.rest)
    ≡ with_stops (stops_of l.fn.self) (ways_by_rows l.fn.rows)

abbrev pub decreases-loop-row : goal.decreases-loop-row
decreases-loop-row l = length l.rest
