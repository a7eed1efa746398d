use Rattle.std.proofs.Common.{◌≤◌, length, arith, subst, sym, ◌∙◌}
use Rattle.base_lines.specs.Numbers.{LAST_PLACE}
use Rattle.map_ways.proofs.Rows.{mapped_few}
use Rattle.map_graph.proofs.DrawnLemmas.{around_few}
use Rattle.map_graph.proofs.map.counts_around.Goals as goal

pub seen_counts-requires : goal.seen_counts-requires
seen_counts-requires c =
    let places = c.deref.ensures.value ∙ c.in_ok-places.ensures in
    let mapped = subst (λ places. length places ≤ LAST_PLACE) (sym c.requires)
    (mapped_few c.args.cave.now) in
    let few = around_few c.args.cave.now c.args.mapped.now c.args.part.around in
    subst (λ places. length places ≤ LAST_PLACE) (sym places) (omega arith)
