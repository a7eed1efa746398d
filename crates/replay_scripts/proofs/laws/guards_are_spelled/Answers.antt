use Rattle.replay_scripts.proofs.ExpectedLines.{guards_are_spelled}
use Rattle.replay_scripts.proofs.laws.guards_are_spelled.Goals as goal

pub returns : goal.returns
returns c = guards_are_spelled
