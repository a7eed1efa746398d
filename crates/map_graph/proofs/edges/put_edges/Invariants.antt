use Rattle.std.proofs.Common.{take}
use Rattle.std.specs.List.{flat_map}
use Rattle.base_text.specs.Text.{Tells}
use Rattle.map_graph.specs.Edges.{drawn_edge}
use Rattle.map_graph.specs.Stops.{stops_of}
use Rattle.map_graph.proofs.edges.put_edges.Given as goal

abbrev pub invariant-loop-to : goal.invariant-loop-to
invariant-loop-to l =
    Tells (flat_map (drawn_edge l.cave (stops_of l.sights.stops.now) l.sights.logs l.sights.is_seen_only
    l.sights.places.now l.from) (take l.to-index l.to-items)) l.initial.text l.text
