use Rattle.turn_laws.proofs.LineLemmas.{equal_seeds_play_alike}
use Rattle.turn_laws.proofs.line_laws.equal_seeds_play_alike.Goals as goal

pub returns : goal.returns
returns c = equal_seeds_play_alike
