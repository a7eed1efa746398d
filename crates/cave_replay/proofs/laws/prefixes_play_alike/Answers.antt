use Rattle.cave_replay.proofs.Tails.{prefixes_play_alike}
use Rattle.cave_replay.proofs.laws.prefixes_play_alike.Goals as goal

pub returns : goal.returns
returns g c = prefixes_play_alike
