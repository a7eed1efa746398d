use Rattle.std.proofs.Common.{take}
use Rattle.std.specs.List.{flat_map}
use Rattle.base_text.specs.Text.{Tells}
use Rattle.map_graph.specs.Edges.{edges}
use Rattle.map_graph.specs.Stops.{stops_of}
use Rattle.map_graph.proofs.map.put_all_edges.Given as goal

abbrev pub invariant-loop-place : goal.invariant-loop-place
invariant-loop-place l =
    Tells (flat_map (edges l.cave (stops_of l.sights.stops.now) l.sights.logs l.sights.is_seen_only
    l.sights.places.now) (take l.place-index l.sights.places.now)) l.initial.text l.text
