use Rattle.cave_replay.proofs.Tails.{agreed_tails}
use Rattle.cave_replay.proofs.laws.agreed_tails.Goals as goal

pub returns : goal.returns
returns g c = agreed_tails
