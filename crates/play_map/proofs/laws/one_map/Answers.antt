use Rattle.play_map.proofs.LawLemmas.{one_map}
use Rattle.play_map.proofs.laws.one_map.Goals as goal

pub returns : goal.returns
returns c = one_map
