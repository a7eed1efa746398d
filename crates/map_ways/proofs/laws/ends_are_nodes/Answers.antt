use Rattle.map_ways.proofs.WayLemmas.{ends_are_nodes}
use Rattle.map_ways.proofs.laws.ends_are_nodes.Goals as goal

pub returns : goal.returns
returns c = ends_are_nodes
