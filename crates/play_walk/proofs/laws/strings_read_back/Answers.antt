use Rattle.play_walk.proofs.JsonLemmas.{strings_read_back}
use Rattle.play_walk.proofs.laws.strings_read_back.Goals as goal

pub returns : goal.returns
returns c = strings_read_back
