use Rattle.map_graph.proofs.PartLemmas.{nodes_are_lines}
use Rattle.map_graph.proofs.laws.nodes_are_lines.Goals as goal

pub returns : goal.returns
returns c = nodes_are_lines
