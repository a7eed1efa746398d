use Rattle.map_ways.proofs.LabelLemmas.{labels_read_back}
use Rattle.map_ways.proofs.label_laws.labels_read_back.Goals as goal

pub returns : goal.returns
returns c = labels_read_back
