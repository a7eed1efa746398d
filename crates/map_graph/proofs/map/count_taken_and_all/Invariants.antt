use Rattle.std.proofs.Common.{◌≡◌, ◌≤◌, ◌*◌, length, take}
use Rattle.std.specs.List.{sum_by}
use Rattle.map_graph.specs.Map.{ends_taken}
use Rattle.map_ways.specs.Regions.{ends_among}
use Rattle.base_lines.specs.Numbers.{LAST_PLACE}
use Rattle.map_graph.specs.Stops.{stops_of}
use Rattle.map_graph.proofs.map.count_taken_and_all.Given as goal

abbrev pub invariant-loop-from : goal.invariant-loop-from
invariant-loop-from l =
    (l.taken
    ≡ sum_by (λ from. length (ends_taken l.cave (stops_of l.stops) l.places from))
    (take l.from-index l.places))
    × (l.all
    ≡ sum_by (λ from. length (ends_among l.cave l.places from)) (take l.from-index l.places))
    × (l.taken ≤ LAST_PLACE * l.from-index)
    × (l.all ≤ LAST_PLACE * l.from-index)
