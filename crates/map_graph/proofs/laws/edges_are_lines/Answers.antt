use Rattle.map_graph.proofs.PartLemmas.{edges_are_lines}
use Rattle.map_graph.proofs.laws.edges_are_lines.Goals as goal

pub returns : goal.returns
returns c = edges_are_lines
