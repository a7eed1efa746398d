use Rattle.std.proofs.Common.{ap, sym, ◌∙◌}
use Rattle.std.proofs.lemmas.List.{nil_from_length}
use Rattle.map_graph.specs.Stops.{stops_of, way_by_row, ways_by_rows, with_stops}
use Rattle.map_graph.proofs.StopLemmas.{stops_in_turn, without_more}
use Rattle.map_graph.proofs.stops.Stops.note_ways_by_rows.Goals as goal

pub loop-row-preserved : goal.loop-row-preserved
loop-row-preserved c =
    let old = stops_of c.loop-row.self in
    let later = ways_by_rows c.in-Some.later.now in
    ap (λ stops. with_stops stops later) c.in_ok-note_way_by_row.ensures
    ∙ stops_in_turn old (way_by_row c.in-Some.row.now c.in-Some.later.now) later
    ∙ ap (λ rest. with_stops old (ways_by_rows rest)) (sym c.in-Some.ensures.cases.0)
    ∙ c.loop-row.invariant

pub returns : goal.returns
returns c =
    let old = stops_of c.loop-row.self in
    sym (without_more old)
    ∙ ap (λ rest. with_stops old (ways_by_rows rest))
    (sym (nil_from_length c.loop-row.rest.now c.in_default.ensures.cases))
    ∙ c.loop-row.invariant
