use Rattle.std.proofs.Common.{take}
use Rattle.std.specs.List.{flat_map}
use Rattle.base_text.specs.Text.{Tells}
use Rattle.map_graph.specs.Places.{node}
use Rattle.map_graph.specs.Stops.{stops_of}
use Rattle.map_graph.proofs.map.put_nodes.Given as goal

abbrev pub invariant-loop-place : goal.invariant-loop-place
invariant-loop-place l =
    Tells (flat_map (node l.cave l.mapped (stops_of l.sights.stops.now) l.sights.logs) (take l.place-index
    l.sights.places.now)) l.initial.text l.text
