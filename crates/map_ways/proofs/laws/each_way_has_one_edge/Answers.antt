use Rattle.map_ways.proofs.WayLemmas.{each_way_has_one_edge}
use Rattle.map_ways.proofs.laws.each_way_has_one_edge.Goals as goal

pub returns : goal.returns
returns c = each_way_has_one_edge
