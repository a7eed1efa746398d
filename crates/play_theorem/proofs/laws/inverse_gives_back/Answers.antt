use Rattle.play_theorem.proofs.AsPlayed.{inverse_gives_back}
use Rattle.play_theorem.proofs.laws.inverse_gives_back.Goals as goal

pub returns : goal.returns
returns c = inverse_gives_back
