use Rattle.map_ways.proofs.LineLemmas.{label_within}
use Rattle.map_ways.proofs.label_laws.labels_stay_within_a_line.Goals as goal

pub returns : goal.returns
returns c = label_within
