use Rattle.std.proofs.Common.{◌≤◌, All, subst, sym, ◌∙◌}
use Rattle.base_lines.specs.Numbers.{LAST_PLACE}
use Rattle.map_ways.proofs.Rows.{mapped_within}
use Rattle.map_graph.specs.Stops.{stops_of}
use Rattle.map_graph.proofs.DrawnLemmas.{drawn_within}
use Rattle.map_graph.proofs.map.put_drawn_nodes_and_edges.Goals as goal

pub put_nodes_and_edges-requires : goal.put_nodes_and_edges-requires
put_nodes_and_edges-requires c =
    let mapped = subst (All (λ place. place ≤ LAST_PLACE)) (sym c.requires)
    (mapped_within c.args.cave.now) in
    subst (All (λ place. place ≤ LAST_PLACE)) (sym (c.deref.ensures.value ∙ c.in-Ok.ensures))
    (drawn_within (λ place. place ≤ LAST_PLACE) c.args.cave.now c.args.mapped.now mapped
    (stops_of c.args.stops.now) c.args.drawn.0)
