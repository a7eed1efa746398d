use Rattle.cave_replay.proofs.AgreementLemmas.{bounded_by_first}
use Rattle.cave_replay.proofs.laws.bounded_by_first.Goals as goal

pub returns : goal.returns
returns g c = bounded_by_first
