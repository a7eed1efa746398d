use Rattle.map_ways.proofs.WayLemmas.{each_place_has_one_node}
use Rattle.map_ways.proofs.laws.each_place_has_one_node.Goals as goal

pub returns : goal.returns
returns c = each_place_has_one_node
